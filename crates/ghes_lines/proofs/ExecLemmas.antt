-- A replay goes on by a line, told what the line did.
use Rattle.std.proofs.Common.{◌≡◌, ◌<◌, ℕ, arith, List, [], ◌∷◌, refl, sym, subst, Option, Some, None, unwrap_or}
use Rattle.std.specs.Prelude.{Result, Ok, Err, OnOk}
use Rattle.apei_base.specs.Bus.{Reach}
use Rattle.apei_base.specs.Firmware.{Seen, FitsAck}
use Rattle.ghes_ledger.specs.History.{Act, Executed}
use Rattle.ghes_desk.specs.Desk.{DeskSeen}
use Rattle.ghes_lines.specs.Follows.{Follows}
use Rattle.ghes_lines.specs.Lines.{GoesOn, GoesOnTelling}
use Rattle.fw_port.specs.Port.{cell_of}
use Rattle.ghes_lines.specs.declared.machine.Machine.{Machine}

-- what follows where a call succeeds
pub on_ok : {T E : Type 0} (A B : Type 0) (result : Result T E) → (A → B) → OnOk result A → OnOk result B
on_ok A B (Ok value) more holds = more holds
on_ok A B (Err error) more holds = holds

-- a read ack register that is not there holds 0
pub cell_told : (register : Option Reach) (cell : ℕ) → FitsAck register cell → unwrap_or (cell_of register cell) 0 ≡ cell
cell_told None cell fits = sym fits
cell_told (Some register) cell fits = refl

module _ {P : Type 0} (seen : P → Seen) (faults : P → ℕ) (machine : Machine) where
  -- where the memories are as they were
  pub goes_on : (act : Act) (ports : List P) (desk target : DeskSeen) (before : List Executed) (line : Executed) → line.act ≡ act → line.made ≡ [] → desk ≡ target → Follows seen faults machine ports target (line ∷ before) → GoesOn seen faults machine act ports desk before
  goes_on act ports desk target before line which none is f = record {
    line = line;
    act_is = which;
    room = λ some. absurd (some none);
    follows = subst (λ d. Follows seen faults machine ports d (line ∷ before)) (sym is) f;
  }

  -- where that of one source changed
  pub goes_at : (act : Act) (ports changed : List P) (desk target : DeskSeen) (before : List Executed) (line : Executed) → line.act ≡ act → line.made ≡ [] → ports ≡ changed → desk ≡ target → Follows seen faults machine changed target (line ∷ before) → GoesOn seen faults machine act ports desk before
  goes_at act ports changed desk target before line which none same is f = record {
    line = line;
    act_is = which;
    room = λ some. absurd (some none);
    follows = subst (λ ps. Follows seen faults machine ps desk (line ∷ before)) (sym same) (subst (λ d. Follows seen faults machine changed d (line ∷ before)) (sym is) f);
  }

  -- and a block was made, where there was room
  pub goes_made : (act : Act) (old : List P) (ports changed : List P) (start desk target : DeskSeen) (before : List Executed) (line : Executed) → line.act ≡ act → start.blocks < 65536 → Follows seen faults machine old start before → ports ≡ changed → desk ≡ target → Follows seen faults machine changed target (line ∷ before) → GoesOn seen faults machine act ports desk before
  goes_made act old ports changed start desk target before line which few was same is f = record {
    line = line;
    act_is = which;
    room = λ some. omega (arith, few, was.blocks);
    follows = subst (λ ps. Follows seen faults machine ps desk (line ∷ before)) (sym same) (subst (λ d. Follows seen faults machine changed d (line ∷ before)) (sym is) f);
  }

  -- and so, told what the line tells
  pub tells_on : (tells : Executed → Type 0) (act : Act) (ports : List P) (desk target : DeskSeen) (before : List Executed) (line : Executed) → tells line → line.act ≡ act → line.made ≡ [] → desk ≡ target → Follows seen faults machine ports target (line ∷ before) → GoesOnTelling tells seen faults machine act ports desk before
  tells_on tells act ports desk target before line told which none is f = record {
    goes = record {
      line = line;
      act_is = which;
      room = λ some. absurd (some none);
      follows = subst (λ d. Follows seen faults machine ports d (line ∷ before)) (sym is) f;
    };
    told = told;
  }

  pub tells_made : (tells : Executed → Type 0) (act : Act) (old : List P) (ports changed : List P) (start desk target : DeskSeen) (before : List Executed) (line : Executed) → tells line → line.act ≡ act → start.blocks < 65536 → Follows seen faults machine old start before → ports ≡ changed → desk ≡ target → Follows seen faults machine changed target (line ∷ before) → GoesOnTelling tells seen faults machine act ports desk before
  tells_made tells act old ports changed start desk target before line told which few was same is f = record {
    goes = record {
      line = line;
      act_is = which;
      room = λ some. omega (arith, few, was.blocks);
      follows = subst (λ ps. Follows seen faults machine ps desk (line ∷ before)) (sym same) (subst (λ d. Follows seen faults machine changed d (line ∷ before)) (sym is) f);
    };
    told = told;
  }
