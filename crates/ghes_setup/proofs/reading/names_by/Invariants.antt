use Rattle.std.proofs.Common.{◌≡◌, map, take}
use Rattle.ghes_setup.specs.Machine.{name_of}
use Rattle.ghes_setup.proofs.reading.names_by.Given as goal

-- the names of the sources so far
abbrev pub invariant-loop-ghes : goal.invariant-loop-ghes
invariant-loop-ghes l = l.names.items ≡ map name_of (take l.ghes-index l.sources)
