use Rattle.std.proofs.Common.{rules, arith, sym, ap, ◌∙◌}
use Rattle.apei_base.specs.Firmware.{standing}
use Rattle.cper_block.specs.Header.{header_reason}
use Rattle.ghes_nmi.specs.Steps.{examined}
use Rattle.ghes_nmi.proofs.FoundLemmas.{found_whole, found_refused}
use Rattle.ghes_desk.proofs.finding.take_image.Goals as goal

pub returns-in_ok-read_rest-in-Ok-clause-found : goal.returns-in_ok-read_rest-in-Ok-clause-found
returns-in_ok-read_rest-in-Ok-clause-found g c =
    let said = c.examine_rest.ensures c.args.receive.now.limit (search rules) ∙ ap (λ bytes. examined bytes c.args.receive.now.limit) c.as_slice.ensures in
    let is = found_whole c.args.receive.now.limit (standing (g.P.Firmware.seen c.args.port.now)) c.args.image.now.bytes c.read_rest.new.image.bytes c.examine_rest.result c.requires.read (search rules) (search rules) said in
    record { stands = is.0; address = c.requires.at; image = is.1; said = is.2 }

pub returns-in-Err-clause-found : goal.returns-in-Err-clause-found
returns-in-Err-clause-found g c =
    let is = found_refused c.args.receive.now.limit (standing (g.P.Firmware.seen c.args.port.now)) c.args.image.now.bytes c.in-Err.reason c.requires.read (ap (λ h. header_reason h c.args.receive.now.limit) (sym c.requires.says) ∙ sym c.in-Err.ensures.err) in
    record { stands = is.0; address = c.requires.at; image = is.1; said = is.2 }

pub returns-in-Err-clause-short : goal.returns-in-Err-clause-short
returns-in-Err-clause-short g c =
    let is = found_refused c.args.receive.now.limit (standing (g.P.Firmware.seen c.args.port.now)) c.args.image.now.bytes c.in-Err.reason c.requires.read (ap (λ h. header_reason h c.args.receive.now.limit) (sym c.requires.says) ∙ sym c.in-Err.ensures.err) in
    omega (arith, is.3, c.requires.header)
