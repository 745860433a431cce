use Rattle.std.proofs.Common.{arith}
use Rattle.ghes_throttle.specs.Reports.{cache_of}
use Rattle.ghes_throttle.proofs.Caching.{length-cache_of}
use Rattle.ghes_throttle.proofs.Places.{place_for_below}
use Rattle.ghes_throttle.proofs.laws.a_report_takes_a_place.Goals as goal

pub returns-clause-four : goal.returns-clause-four
returns-clause-four c list = length-cache_of list

pub returns-clause-place : goal.returns-clause-place
returns-clause-place c list now = omega (arith, length-cache_of list, place_for_below (cache_of list) now (omega (arith, length-cache_of list)))
