-- The deliveries of a ledger.
use Rattle.std.specs.Prelude.{List, [], ◌∷◌}
use Rattle.std.specs.List.{flat_map}
use Rattle.ghes_ledger.specs.declared.ledger.Taken.{Taken}
use Rattle.ghes_ledger.specs.declared.ledger.Taken.TheVariants.{Delivered, Dropped}
use Rattle.ghes_notify.specs.Delivery.{Delivery, delivery_of}

-- the delivery of a taken block: a report and a repeat are one, a drop is none (own choice)
abbrev pub deliveries_by : Taken → List Delivery
deliveries_by (Delivered source seq bytes reported) = delivery_of source seq bytes ∷ []
deliveries_by (Dropped source seq bytes reason) = []

-- the deliveries of taken blocks, in order (own choice)
abbrev pub deliveries_of : List Taken → List Delivery
deliveries_of taken = flat_map deliveries_by taken
