-- How work on files goes on, and where it stops.
use Rattle.std.proofs.Common.{◌≡◌, ℕ, List, Result, Ok, Err, IfOk, IfErr, sym, subst}
use Rattle.ghes_outside.specs.Outside.{FilesSeen}
use Rattle.ghes_outside.specs.declared.files.LoadError.TheVariants as loads
use Rattle.ghes_replay.specs.declared.exit.Refusal.{Refusal}
use Rattle.ghes_replay.specs.declared.exit.Refusal.TheVariants as refusals
use Rattle.ghes_replay.specs.Loading.{CountsFailed, Works}
use Rattle.ghes_replay.specs.Seen.{NoneFailed}
use Rattle.ghes_replay.proofs.LoadLemmas.{loads_weaker, loads_both, none_both}

-- a refusal behind work in which no load failed
counts_later : (before middle after : FilesSeen) (refusal : Refusal) → NoneFailed before middle → CountsFailed middle after refusal → CountsFailed before after refusal
counts_later before middle after (refusals.Load file loads.Failed) none counted = tt
counts_later before middle after refusals.OutOfMemory none counted = tt
counts_later before middle after other none counted = none_both before middle after none counted

pub counts_none : (before after : FilesSeen) (refusal : Refusal) → NoneFailed before after → CountsFailed before after refusal
counts_none before after (refusals.Load file loads.Failed) none = tt
counts_none before after refusals.OutOfMemory none = tt
counts_none before after other none = none

-- what was found goes on without a load
pub goes_on : {T U : Type 0} (P Q : List ℕ → Type 0) (before after : FilesSeen) (F : T → Type 0) (C : Refusal → Type 0) (G : U → Type 0) (D : Refusal → Type 0) (x : T) (result : Result U Refusal) → ((name : List ℕ) → P name → Q name) → Works P before after F C (Ok x) → IfOk result G → IfErr result D → Works Q before after G D result
goes_on P Q before after F C G D x (Ok y) wider first is_found is_refused = record {
  loads = loads_weaker P Q before after wider first.loads;
  unfailed = first.unfailed;
  counted = tt;
  found = is_found;
  refused = tt;
}
goes_on P Q before after F C G D x (Err refusal) wider first is_found is_refused = record {
  loads = loads_weaker P Q before after wider first.loads;
  unfailed = tt;
  counted = counts_none before after refusal first.unfailed;
  found = tt;
  refused = is_refused;
}

-- what was refused stops
pub stops : {T U : Type 0} (P Q : List ℕ → Type 0) (before after : FilesSeen) (F : T → Type 0) (C : Refusal → Type 0) (G : U → Type 0) (D : Refusal → Type 0) (refusal : Refusal) → ((name : List ℕ) → P name → Q name) → (C refusal → D refusal) → Works P before after F C (Err refusal) → Works Q before after G D (Err refusal)
stops P Q before after F C G D refusal wider causes first = record {
  loads = loads_weaker P Q before after wider first.loads;
  unfailed = tt;
  counted = first.counted;
  found = tt;
  refused = causes first.refused;
}

-- work behind work that found something
pub then_works : {T U : Type 0} (P Q R : List ℕ → Type 0) (before middle after : FilesSeen) (F : T → Type 0) (C : Refusal → Type 0) (G H : U → Type 0) (D E : Refusal → Type 0) (x : T) (result : Result U Refusal) → ((name : List ℕ) → P name → R name) → ((name : List ℕ) → Q name → R name) → ((y : U) → G y → H y) → ((refusal : Refusal) → D refusal → E refusal) → Works P before middle F C (Ok x) → Works Q middle after G D result → Works R before after H E result
then_works P Q R before middle after F C G H D E x (Ok y) wider_first wider_second finds causes first second = record {
  loads = loads_both R before middle after (loads_weaker P R before middle wider_first first.loads) (loads_weaker Q R middle after wider_second second.loads);
  unfailed = none_both before middle after first.unfailed second.unfailed;
  counted = tt;
  found = finds y second.found;
  refused = tt;
}
then_works P Q R before middle after F C G H D E x (Err refusal) wider_first wider_second finds causes first second = record {
  loads = loads_both R before middle after (loads_weaker P R before middle wider_first first.loads) (loads_weaker Q R middle after wider_second second.loads);
  unfailed = tt;
  counted = counts_later before middle after refusal first.unfailed second.counted;
  found = tt;
  refused = causes refusal second.refused;
}

-- where only memory can be wanting
pub for_memory : {T : Type 0} (C : Refusal → Type 0) (result : Result T Refusal) → C refusals.OutOfMemory → IfErr result (λ refusal. refusal ≡ refusals.OutOfMemory) → IfErr result C
for_memory C (Ok x) cause only = tt
for_memory C (Err refusal) cause only = subst C (sym only) cause
