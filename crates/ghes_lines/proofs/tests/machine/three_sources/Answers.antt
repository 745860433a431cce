use Rattle.fw_port.specs.Port.{seen}
use Rattle.ghes_lines.proofs.FreshLemmas.{fresh_three}
use Rattle.ghes_lines.proofs.tests.machine.three_sources.Goals as goal

pub returns-clause-fresh : goal.returns-clause-fresh
returns-clause-fresh c =
    fresh_three seen c.in_ok-first.first c.in_ok-second.second c.in_ok-third.third
    c.in_ok-first.first_port c.in_ok-second.second_port c.in_ok-third.third_port _ _
    c.in_ok-vec.ensures.items c.in_ok-ports.ensures.items c.in_ok-first.ensures.0 c.in_ok-second.ensures.0 c.in_ok-third.ensures.0
