-- The pieces of each line, in order.
use Rattle.std.proofs.Common.{rules, append_assoc}
use Rattle.ghes_replay.specs.Refusal.{load_line, hest_line, einj_line, platform_line, script_line}
use Rattle.ghes_replay.proofs.exit.Refusal.line.Goals as goal

pub returns-in-Load : goal.returns-in-Load
unfolding load_line
returns-in-Load c = rw c.in-Load.is (search (rules, append_assoc))

pub returns-in-Hest : goal.returns-in-Hest
unfolding hest_line
returns-in-Hest c = search rules

pub returns-in-Einj : goal.returns-in-Einj
unfolding einj_line
returns-in-Einj c = search rules

pub returns-in-Script : goal.returns-in-Script
unfolding script_line
returns-in-Script c = rw c.in-Script.is (search (rules, append_assoc))

pub returns-in-Platform : goal.returns-in-Platform
unfolding platform_line
returns-in-Platform c = search rules
