-- What contracts see of a context, and of one whose pass is away.
use Rattle.std.specs.Prelude.{◌≡◌, ◌≤◌, ℕ, [], List, length, Option, Some, None, replicate, vec_capacity}
use Rattle.std.specs.List.{AllByRecursion}
use Rattle.ghes_call.specs.declared.call.Call.{Call}
use Rattle.ghes_rule.specs.Moves.{blank_pass}
use Rattle.ghes_rule.specs.Seen.{PassSeen}
use Rattle.ghes_rule.specs.declared.views.Stage.TheVariants.{Idle}
use Rattle.ghes_rule.specs.declared.views.PacketView.{PacketView}
use Rattle.ghes_throttle.specs.Shown.{Known}
use Rattle.ghes_nmi.specs.declared.receive.Receive.{Receive}
use Rattle.ghes_context.specs.declared.rest.Rest.{Rest}
use Rattle.ghes_context.specs.Told.{told_by}

-- a context: its number, what its pass knows, the reports that it saw last, how each of its sources is received, how many blocks of
-- each are acknowledged, how many bytes an image has at most, its calls, and for how many calls there is memory (own choice)
pub record ContextSeen : Type 0 where
  pub number : ℕ
  pub pass : PassSeen
  pub reports : Known
  pub sources : List Receive
  pub acknowledged : List ℕ
  pub block_len : ℕ
  pub calls : List Call
  pub room : ℕ

-- a pass of no shared object
abbrev pub no_pass : PassSeen
no_pass = record { table = record { words = 0; slots = 0; views_name = 0; atom = 0; block = 0; offset = 0; slot_names = [] }; view = blank_pass }

-- the pass of a context; between two calls it is there
abbrev pub pass_at : Option PassSeen → PassSeen
pass_at None = no_pass
pass_at (Some pass) = pass

-- a limit has room for the header of a block, and a block under it fits an image
abbrev pub FitsLimit : ℕ → Receive → Type 0
FitsLimit block_len receive = (20 ≤ receive.limit) × (receive.limit ≤ block_len)

-- what a pass is between two calls: it has this number, it holds no claim, and its packets are as long as an image
pub record IsReady (number block_len : ℕ) (pass : PassSeen) : Type 0 where
  pub numbered : pass.view.number ≡ number
  pub idle : pass.view.stage ≡ Idle
  pub long : pass.view.room ≡ block_len

-- a pass is there
abbrev pub IsManned : ℕ → ℕ → Option PassSeen → Type 0
IsManned number block_len None = ⊥
IsManned number block_len (Some pass) = IsReady number block_len pass

-- What a context has beside its pass: the limits of its sources fit, each source has a count, and an image and the fatal block that it
-- keeps have room
pub record IsKeeping (rest : Rest) : Type 0 where
  pub limits : AllByRecursion (FitsLimit rest.block_len) rest.sources.items
  pub as_many : length rest.acknowledged.items ≡ length rest.sources.items
  pub few : length rest.sources.items ≤ 65536
  pub image : rest.block_len ≤ rest.image.room
  pub room : rest.block_len ≤ rest.fatal.packet.bytes.room

-- a context whose pass is away, and the fatal block that it keeps (own choice)
pub record PartedSeen : Type 0 where
  pub number : ℕ
  pub reports : Known
  pub sources : List Receive
  pub acknowledged : List ℕ
  pub block_len : ℕ
  pub calls : List Call
  pub room : ℕ
  pub fatal : Option PacketView

-- what is seen of a context by its parts
abbrev pub context_of : PassSeen → Rest → ContextSeen
context_of pass rest = record {
  number = rest.number;
  pass = pass;
  reports = rest.reader;
  sources = rest.sources.items;
  acknowledged = rest.acknowledged.items;
  block_len = rest.block_len;
  calls = rest.log.items;
  room = vec_capacity rest.log;
}

abbrev pub parted_of : Rest → PartedSeen
parted_of rest = record {
  number = rest.number;
  reports = rest.reader;
  sources = rest.sources.items;
  acknowledged = rest.acknowledged.items;
  block_len = rest.block_len;
  calls = rest.log.items;
  room = vec_capacity rest.log;
  fatal = told_by rest.fatal;
}

-- a context that a pass takes its seat in
abbrev pub seated_in : PartedSeen → PassSeen → ContextSeen
seated_in parted pass = record {
  number = parted.number;
  pass = pass;
  reports = parted.reports;
  sources = parted.sources;
  acknowledged = parted.acknowledged;
  block_len = parted.block_len;
  calls = parted.calls;
  room = parted.room;
}

-- a context without its pass; the fatal block is that of the pass
abbrev pub parted_from : ContextSeen → PartedSeen
parted_from context = record {
  number = context.number;
  reports = context.reports;
  sources = context.sources;
  acknowledged = context.acknowledged;
  block_len = context.block_len;
  calls = context.calls;
  room = context.room;
  fatal = context.pass.view.fatal;
}

-- a new context, which has made no call (own choice)
abbrev pub new_context : ℕ → PassSeen → Known → List Receive → ℕ → ℕ → ContextSeen
new_context number pass reports sources block_len room = record {
  number = number;
  pass = pass;
  reports = reports;
  sources = sources;
  acknowledged = replicate (length sources) 0;
  block_len = block_len;
  calls = [];
  room = room;
}

-- a call leaves these as they are
pub record KeepsRest (before after : Rest) : Type 0 where
  pub number : after.number ≡ before.number
  pub image : after.image ≡ before.image
  pub fatal : after.fatal ≡ before.fatal
  pub reader : after.reader ≡ before.reader
  pub sources : after.sources ≡ before.sources
  pub block_len : after.block_len ≡ before.block_len
