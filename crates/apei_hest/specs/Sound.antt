-- What is known of the sources of an accepted table.
use Rattle.std.specs.Prelude.{◌≡◌, ◌≤◌, ℕ, List, map, None}
use Rattle.std.specs.Option.{IfSome}
use Rattle.apei_base.specs.Region.{gas_refusal}
use Rattle.apei_hest.specs.Refusal.{generic}
use Rattle.apei_hest.specs.declared.source.Ghes.{Ghes}
use Rattle.apei_hest.specs.declared.source.Source.{Source}

-- the ids of the generic sources, in order (ACPI 6.5, 18.3.2.7)
abbrev pub ids_of : List Source → List ℕ
ids_of found = map (λ ghes. ghes.id) (generic found)

-- The source can be read: its registers name regions, and its block has room for a header of 20 bytes (own choice).
pub record IsSound (ghes : Ghes) : Type 0 where
  pub status : gas_refusal ghes.status ≡ None
  pub ack : IfSome ghes.ack (λ ack. gas_refusal ack.register ≡ None)
  pub room : 20 ≤ ghes.block_length
