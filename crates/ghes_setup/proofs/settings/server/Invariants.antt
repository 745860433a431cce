use Rattle.std.proofs.Common.{◌≡◌, length}
use Rattle.ghes_setup.specs.Settings.{said_by, server_by}
use Rattle.ghes_setup.proofs.settings.server.Given as goal

abbrev pub invariant-loop-line : goal.invariant-loop-line
invariant-loop-line l = said_by (server_by l.at) l.server l.rest ≡ said_by (server_by l.at) l.default l.settings

abbrev pub decreases-loop-line : goal.decreases-loop-line
decreases-loop-line l = length l.rest
