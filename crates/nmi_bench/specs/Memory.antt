-- The memory of a source that raises one block so often.
use Rattle.std.specs.Prelude.{◌≡◌, ◌≤◌, ◌<◌, ◌-◌, ◌^◌, ℕ, Bool, not, ◌&&◌, nat_lt, if◌then◌else◌, List, replicate, Some, IsTrue}
use Rattle.apei_base.specs.Bus.{Reach}
use Rattle.apei_base.specs.Firmware.{Layout, Seen, IsRaised}
use Rattle.apei_base.specs.declared.region.Space.TheVariants.{Memory}

-- the register of this width in bits at an address of memory
abbrev pub register_at : ℕ → ℕ → Reach
register_at address width = record { space = Memory; address = address; width = width }

-- where the source is read (own choice)
abbrev pub port_layout : Layout
port_layout = record {
  status = register_at 4096 64;
  area = 8192;
  room = 4096;
  ack = Some (register_at 4104 32);
}

-- what its parts mean: a block, how often it is raised and was acknowledged, whether an acknowledgement is awaited, and what the read
-- ack register holds (own choice)
abbrev pub port_seen : List ℕ → ℕ → ℕ → Bool → ℕ → Seen
port_seen block raised acknowledged waits cell = record {
  layout = port_layout;
  cell = cell;
  made = replicate raised block;
  acknowledged = acknowledged;
  waits = waits;
  planned = 0;
}

-- where the area is, once a block has stood (own choice)
abbrev pub area_where : Bool → ℕ
area_where stood = if stood then 8192 else 0

-- Its parts belong together, and what an access wants of them stands ready: whether a block stands, and what the status address
-- register holds (own choice).
pub record IsReady (block : List ℕ) (raised acknowledged : ℕ) (waits stands : Bool) (status cell : ℕ) : Type 0 where
  pub raised_is : IsRaised block
  pub few : raised < 2 ^ 32 - 1
  pub made : acknowledged ≤ raised
  pub awaited : IsTrue waits → 0 < acknowledged
  pub stands_is : stands ≡ (not waits && nat_lt acknowledged raised)
  pub status_is : status ≡ area_where (nat_lt 0 raised)
  pub fits : cell < 2 ^ 32
