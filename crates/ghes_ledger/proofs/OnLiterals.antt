-- A small ledger that is lawful: two contexts, three sources, a run with a fault, a duplicate and a malformed block, and a run
-- that a fatal block stops in the other context.
use Rattle.std.proofs.Common.{◌≡◌, ℕ, zero, suc, true, false, eqb, List, [], ◌∷◌, Some, None, refl, ap, arith}
use Rattle.std.specs.Prelude.{slice_index}
use Rattle.cper_block.specs.declared.malformed.Malformed.TheVariants.{DataLength}
use Rattle.cper_block.specs.Reason.{reason_of}
use Rattle.std.proofs.lemmas.Bool.{ne_eqb}
use Rattle.ghes_call.specs.declared.call.AckState.{AckState}
use Rattle.ghes_call.specs.declared.call.AckState.TheVariants.{NotAsked, Done}
use Rattle.ghes_call.specs.declared.call.Call.{Call}
use Rattle.ghes_call.specs.declared.call.Outcome.{Outcome}
use Rattle.ghes_call.specs.declared.call.Outcome.TheVariants.{Nothing, Queued, Malformed, Duplicate, Fatal, Fault, Stopped}
use Rattle.ghes_ledger.specs.declared.ledger.Mark.{Mark}
use Rattle.ghes_ledger.specs.declared.ledger.Reported.TheVariants.{New}
use Rattle.ghes_ledger.specs.declared.ledger.Taken.TheVariants.{Delivered, Dropped}
use Rattle.ghes_ledger.specs.Asks.{Fail, Asks, Quiet, Makes, Runs}
use Rattle.ghes_ledger.specs.History.{Act, script_end, Executed, of_context, by_source}
use Rattle.ghes_ledger.specs.Kept.{Kept}
use Rattle.ghes_ledger.specs.Lawful.{FitsLook, IsLawful, AreExecuted, Tells, IsLawfulLine, Looks}
use Rattle.ghes_ledger.specs.Fates.{entries_of}
use Rattle.ghes_ledger.specs.Names.{queued_names, served_by}
use Rattle.ghes_ledger.specs.Plan.{Plan}
use Rattle.ghes_ledger.specs.Reports.{hit}
use Rattle.ghes_ledger.specs.Turns.{AreTurns}

-- blocks of 20 bytes: one well formed, another, a malformed and a fatal one
abbrev block_with : ℕ → ℕ → ℕ → List ℕ
block_with status len severity = status ∷ 0 ∷ 0 ∷ 0 ∷ 0 ∷ 0 ∷ 0 ∷ 0 ∷ 0 ∷ 0 ∷ 0 ∷ 0 ∷ len ∷ 0 ∷ 0 ∷ 0 ∷ severity ∷ 0 ∷ 0 ∷ 0 ∷ []

abbrev z : List ℕ
z = block_with 1 0 2

abbrev y : List ℕ
y = block_with 17 0 2

abbrev bad : List ℕ
bad = block_with 1 5 2

abbrev worst : List ℕ
worst = block_with 1 0 1

abbrev contexts_of : List ℕ
contexts_of = 0 ∷ 1 ∷ 0 ∷ []

abbrev plan : Plan
plan = record { sources = 3; id = λ s. s; limit = λ s. 4096; server = slice_index contexts_of; has_ack = λ s. eqb s 1; cell = λ s n. n; contexts = 2; slots = 16; places = 4 }

abbrev call : ℕ → ℕ → Outcome → AckState → Call
call c s outcome ack = record { context = c; source = s; now = 0; reply = record { outcome = outcome; ack = ack } }

abbrev act : ℕ → Asks → Act
act n asks = record { number = n; asks = asks }

-- a line that only makes blocks
abbrev makes : ℕ → ℕ → List ℕ → Executed
makes n s block = record { act = act n (Makes s block); made = record { source = s; bytes = block } ∷ []; calls = []; ends = []; peeks = []; taken = [] }

abbrev fails : Executed
fails = record { act = act 5 (Quiet (Fail 1)); made = []; calls = []; ends = []; peeks = []; taken = [] }

-- the first run
abbrev runs : Executed
runs = record {
  act = act 6 (Runs 2);
  made = [];
  calls = call 0 0 (Queued 1) NotAsked ∷ call 0 2 (Malformed 1 DataLength) NotAsked ∷ call 0 0 (Duplicate 2 1) NotAsked ∷ call 0 2 Nothing NotAsked
      ∷ call 1 1 Fault NotAsked ∷ call 1 1 (Queued 1) Done ∷ [];
  ends = [];
  peeks = [];
  taken = Delivered 0 1 z (New 1) ∷ Dropped 2 1 bad DataLength ∷ Delivered 1 1 y (New 2) ∷ [];
}

-- the run that is stopped
abbrev stops : Executed
stops = record {
  act = act 8 (Runs 2);
  made = [];
  calls = call 0 0 (Fatal 3) NotAsked ∷ call 1 1 Stopped NotAsked ∷ [];
  ends = [];
  peeks = [];
  taken = [];
}

abbrev ends : Executed
ends = record { act = script_end; made = []; calls = []; ends = []; peeks = []; taken = [] }

abbrev history : List Executed
history = ends ∷ stops ∷ makes 7 0 worst ∷ runs ∷ fails ∷ makes 4 1 y ∷ makes 3 2 bad ∷ makes 2 0 z ∷ makes 1 0 z ∷ []

abbrev lines : List Act
lines = act 1 (Makes 0 z) ∷ act 2 (Makes 0 z) ∷ act 3 (Makes 2 bad) ∷ act 4 (Makes 1 y) ∷ act 5 (Quiet (Fail 1)) ∷ act 6 (Runs 2) ∷ act 7 (Makes 0 worst) ∷ act 8 (Runs 2) ∷ []

abbrev mark : ℕ → ℕ → ℕ → Mark
mark n calls taken = record { line = n; calls = calls; taken = taken }

abbrev kept : Kept
kept = record {
  calls = call 0 0 (Queued 1) NotAsked ∷ call 0 0 (Duplicate 2 1) NotAsked ∷ call 1 1 Fault NotAsked ∷ call 1 1 (Queued 1) Done
      ∷ call 0 2 (Malformed 1 DataLength) NotAsked ∷ call 0 2 Nothing NotAsked ∷ call 0 0 (Fatal 3) NotAsked ∷ call 1 1 Stopped NotAsked ∷ [];
  taken = Delivered 0 1 z (New 1) ∷ Dropped 2 1 bad DataLength ∷ Delivered 1 1 y (New 2) ∷ [];
  reports = record { source = 0; seq = 1; time = 0; bytes = z } ∷ record { source = 1; seq = 1; time = 0; bytes = y } ∷ [];
  panic = record { source = 0; seq = 3; bytes = worst; reason = None; fatal = true } ∷ [];
  injections = [];
  peeks = [];
  marks = mark 1 0 0 ∷ mark 2 0 0 ∷ mark 3 0 0 ∷ mark 4 0 0 ∷ mark 5 0 0 ∷ mark 6 6 3 ∷ mark 7 6 3 ∷ mark 8 8 3 ∷ mark 0 8 3 ∷ [];
}

-- what holds of each of three sources, and of all others
each_source : (P : ℕ → Type 0) → P 0 → P 1 → P 2 → ((s : ℕ) → eqb 0 s ≡ false → eqb 1 s ≡ false → eqb 2 s ≡ false → P s) → (s : ℕ) → P s
each_source P a b c other zero = a
each_source P a b c other (suc zero) = b
each_source P a b c other (suc (suc zero)) = c
each_source P a b c other (suc (suc (suc s))) = other (suc (suc (suc s))) (ne_eqb 0 (suc (suc (suc s))) (λ e. omega arith)) (ne_eqb 1 (suc (suc (suc s))) (λ e. omega arith)) (ne_eqb 2 (suc (suc (suc s))) (λ e. omega arith))

each_context : (P : ℕ → Type 0) → P 0 → P 1 → ((c : ℕ) → eqb 0 c ≡ false → eqb 1 c ≡ false → P c) → (c : ℕ) → P c
each_context P a b other zero = a
each_context P a b other (suc zero) = b
each_context P a b other (suc (suc c)) = other (suc (suc c)) (ne_eqb 0 (suc (suc c)) (λ e. omega arith)) (ne_eqb 1 (suc (suc c)) (λ e. omega arith))

pub tells : Tells plan kept history
tells = record { calls = refl; taken = refl; reports = refl; injections = refl; peeks = refl; marks = refl }

pub which : AreExecuted lines lines history
which = record { rest = []; cut = refl; all = λ e. refl; acts = refl }

turns_of_first : AreTurns plan 2 runs.calls
turns_of_first = record {
  by_context = refl;
  along = each_context _ (refl, (refl, (refl, (refl, refl)))) (refl, (refl, refl)) (λ c a b. rw (a, b) refl);
}

turns_of_last : AreTurns plan 2 stops.calls
turns_of_last = record {
  by_context = refl;
  along = each_context _ (refl, refl) (refl, refl) (λ c a b. rw (a, b) refl);
}

false_is_true : false ≡ true → ⊥
false_is_true e = cc

done_is_asked : Done ≡ NotAsked → ⊥
done_is_asked e = cc

some_is_none : (name : ℕ × ℕ) (names : List (ℕ × ℕ)) → name ∷ names ≡ [] → ⊥
some_is_none name names e = cc

look_0 : Looks plan (fails ∷ makes 4 1 y ∷ makes 3 2 bad ∷ makes 2 0 z ∷ makes 1 0 z ∷ []) kept.reports 0 [] (of_context 0 runs.calls)
unfolding reason_of hit
look_0 = (0, omega arith, omega arith, refl, (0, omega arith, omega arith, tt, (1, omega arith, omega arith, refl, (1, omega arith, omega arith, tt, tt))))

look_1 : Looks plan (fails ∷ makes 4 1 y ∷ makes 3 2 bad ∷ makes 2 0 z ∷ makes 1 0 z ∷ []) kept.reports 0 [] (of_context 1 runs.calls)
unfolding reason_of hit
look_1 = (0, omega arith, omega arith, tt, (1, omega arith, omega arith, refl, tt))

abbrev before_2 : List Executed
before_2 = makes 1 0 z ∷ []

abbrev before_3 : List Executed
before_3 = makes 2 0 z ∷ before_2

abbrev before_4 : List Executed
before_4 = makes 3 2 bad ∷ before_3

abbrev before_5 : List Executed
before_5 = makes 4 1 y ∷ before_4

abbrev before_6 : List Executed
before_6 = fails ∷ before_5

abbrev before_7 : List Executed
before_7 = runs ∷ before_6

abbrev before_8 : List Executed
before_8 = makes 7 0 worst ∷ before_7

abbrev before_end : List Executed
before_end = stops ∷ before_8

line_1 : IsLawfulLine plan [] (makes 1 0 z)
unfolding reason_of hit
line_1 = record {
  stops = refl;
  makes = (refl, refl);
  peeks = refl;
  calls = refl;
  each_call = tt;
  room = tt;
  looks = λ c. tt;
  faults = λ s. omega arith;
  takes = refl;
  told = tt;
  images = tt;
}

line_2 : IsLawfulLine plan before_2 (makes 2 0 z)
unfolding reason_of hit
line_2 = record {
  stops = refl;
  makes = (refl, refl);
  peeks = refl;
  calls = refl;
  each_call = tt;
  room = tt;
  looks = λ c. tt;
  faults = λ s. omega arith;
  takes = refl;
  told = tt;
  images = tt;
}

line_3 : IsLawfulLine plan before_3 (makes 3 2 bad)
unfolding reason_of hit
line_3 = record {
  stops = refl;
  makes = (refl, refl);
  peeks = refl;
  calls = refl;
  each_call = tt;
  room = tt;
  looks = λ c. tt;
  faults = λ s. omega arith;
  takes = refl;
  told = tt;
  images = tt;
}

line_4 : IsLawfulLine plan before_4 (makes 4 1 y)
unfolding reason_of hit
line_4 = record {
  stops = refl;
  makes = (refl, refl);
  peeks = refl;
  calls = refl;
  each_call = tt;
  room = tt;
  looks = λ c. tt;
  faults = λ s. omega arith;
  takes = refl;
  told = tt;
  images = tt;
}

line_5 : IsLawfulLine plan before_5 fails
unfolding reason_of hit
line_5 = record {
  stops = refl;
  makes = (refl, refl);
  peeks = refl;
  calls = refl;
  each_call = tt;
  room = tt;
  looks = λ c. tt;
  faults = λ s. omega arith;
  takes = refl;
  told = tt;
  images = tt;
}

line_6 : IsLawfulLine plan before_6 runs
unfolding reason_of hit
line_6 = record {
  stops = refl;
  makes = (refl, refl);
  peeks = refl;
  calls = turns_of_first;
  each_call = (
    record { by = record { source = omega arith; context = refl; contexts = omega arith; now = refl }; made = (omega arith, tt); asked = refl; block = (z, refl, (refl, refl)); slots = tt; stop = tt },
    (
      record { by = record { source = omega arith; context = refl; contexts = omega arith; now = refl }; made = (omega arith, tt); asked = refl; block = (bad, refl, refl); slots = tt; stop = tt },
      (
        record { by = record { source = omega arith; context = refl; contexts = omega arith; now = refl }; made = (omega arith, tt); asked = refl; block = (z, refl, (refl, refl)); slots = tt; stop = tt },
        (
          record { by = record { source = omega arith; context = refl; contexts = omega arith; now = refl }; made = tt; asked = refl; block = refl; slots = tt; stop = tt },
          (
            record { by = record { source = omega arith; context = refl; contexts = omega arith; now = refl }; made = tt; asked = refl; block = tt; slots = tt; stop = tt },
            (
              record { by = record { source = omega arith; context = refl; contexts = omega arith; now = refl }; made = (omega arith, tt); asked = done_is_asked; block = (y, refl, (refl, refl)); slots = tt; stop = tt },
              tt,
            ),
          ),
        ),
      ),
    ),
  );
  room = tt;
  looks = each_context _ look_0 look_1 (λ c a b. rw (a, b) tt);
  faults = each_source _ (omega arith) (omega arith) (omega arith) (λ s a b c. rw (a, b, c) (omega arith));
  takes = λ none. each_context _ refl refl (λ c a b. rw (a, b) refl);
  told = (refl, (tt, (refl, tt)));
  images = (record { block = z; at = refl; bytes = refl; reason = refl }, (record { block = bad; at = refl; bytes = refl; reason = refl }, (record { block = y; at = refl; bytes = refl; reason = refl }, tt)));
}

line_7 : IsLawfulLine plan before_7 (makes 7 0 worst)
unfolding reason_of hit
line_7 = record {
  stops = refl;
  makes = (refl, refl);
  peeks = refl;
  calls = refl;
  each_call = tt;
  room = tt;
  looks = λ c. tt;
  faults = each_source _ (omega arith) (omega arith) (omega arith) (λ s a b c. rw (a, b, c) (omega arith));
  takes = refl;
  told = tt;
  images = tt;
}

line_8 : IsLawfulLine plan before_8 stops
unfolding reason_of hit
line_8 = record {
  stops = refl;
  makes = (refl, refl);
  peeks = refl;
  calls = turns_of_last;
  each_call = (
    record { by = record { source = omega arith; context = refl; contexts = omega arith; now = refl }; made = (omega arith, tt); asked = refl; block = (worst, refl, (refl, refl)); slots = tt; stop = tt },
    (
      record { by = record { source = omega arith; context = refl; contexts = omega arith; now = refl }; made = tt; asked = refl; block = tt; slots = tt; stop = omega arith },
      tt,
    ),
  );
  room = tt;
  looks = each_context _ (2, omega arith, omega arith, tt, tt) (2, omega arith, omega arith, tt, tt) (λ c a b. rw (a, b) tt);
  faults = each_source _ (omega arith) (omega arith) (omega arith) (λ s a b c. rw (a, b, c) (omega arith));
  takes = λ none. absurd (some_is_none _ _ none);
  told = tt;
  images = tt;
}

line_end : IsLawfulLine plan before_end ends
unfolding reason_of hit
line_end = record {
  stops = tt;
  makes = (refl, refl);
  peeks = refl;
  calls = refl;
  each_call = tt;
  room = tt;
  looks = λ c. tt;
  faults = each_source _ (omega arith) (omega arith) (omega arith) (λ s a b c. rw (a, b, c) (omega arith));
  takes = (λ none. absurd (some_is_none _ _ none), λ some. refl);
  told = tt;
  images = tt;
}

-- this ledger is lawful
pub lawful : IsLawful plan lines kept history
unfolding reason_of
lawful = record {
  executed = lines;
  lines_executed = which;
  beside = tells;
  each_line = (((((((((tt, line_1), line_2), line_3), line_4), line_5), line_6), line_7), line_8), line_end);
  numbers = each_source _ refl refl refl (λ s a b c. rw (a, b, c) refl);
  order = each_context _ refl refl (λ c a b. rw (a, b) refl);
  panic_order = refl;
  fatal_blocks = refl;
  no_panic = λ none. absurd (some_is_none _ _ none);
  panic_images = (record { block = worst; at = refl; bytes = refl; reason = refl }, tt);
}

-- Turned ledgers

-- the blocks of one context may not change places, and those of two contexts may
abbrev in_context_turned : List (ℕ × ℕ)
in_context_turned = (2, 1) ∷ (0, 1) ∷ (1, 1) ∷ []

abbrev across_turned : List (ℕ × ℕ)
across_turned = (1, 1) ∷ (0, 1) ∷ (2, 1) ∷ []

abbrev all_queued : List (ℕ × ℕ)
all_queued = (0, 1) ∷ (2, 1) ∷ (1, 1) ∷ []

first_source : List (ℕ × ℕ) → ℕ
first_source [] = 0
first_source (name ∷ names) = name.0

two_is_zero : (a b : ℕ) → a ≡ 2 → b ≡ 0 → a ≡ b → ⊥
two_is_zero a b is be e = omega (arith, is, be, e)

pub context_is_not_turned : ((c : ℕ) → served_by plan c in_context_turned ≡ served_by plan c all_queued) → ⊥
unfolding first_source
context_is_not_turned all = two_is_zero 2 0 refl refl (ap first_source (all 0))

pub contexts_may_turn : (c : ℕ) → served_by plan c across_turned ≡ served_by plan c all_queued
contexts_may_turn = each_context _ refl refl (λ c a b. rw (a, b) refl)

some_is_no_number : (n : ℕ) → Some n ≡ None → ⊥
some_is_no_number n e = cc

-- a queued block whose bytes were reported before the line is unlawful
pub a_hit_is_no_block : FitsLook 4 4096 (Some z) (record { source = 0; seq = 1; time = 0; bytes = z } ∷ []) 9999999999 (Queued 2) → ⊥
unfolding reason_of hit
a_hit_is_no_block e = some_is_no_number 1 e

-- at ten seconds it is lawful again
pub at_ten_seconds : FitsLook 4 4096 (Some z) (record { source = 0; seq = 1; time = 0; bytes = z } ∷ []) 10000000000 (Queued 2)
unfolding reason_of hit
at_ten_seconds = refl

-- the order of a context is that of its turns, and not that in which a ledger keeps the calls of a line
abbrev two_turns : List Call
two_turns = call 0 0 (Queued 1) NotAsked ∷ call 0 2 (Queued 1) NotAsked ∷ call 0 0 (Queued 2) NotAsked ∷ []

second_source : List (ℕ × ℕ) → ℕ
second_source [] = 0
second_source (name ∷ names) = first_source names

pub kept_order_is_not_the_order : served_by plan 0 (queued_names two_turns) ≡ served_by plan 0 (queued_names (by_source plan two_turns)) → ⊥
unfolding first_source second_source
kept_order_is_not_the_order e = two_is_zero 2 0 refl refl (ap second_source e)

-- a packet of another source is no entry of a block
pub another_source_is_no_entry : entries_of 1 3 kept ≡ []
another_source_is_no_entry = refl

pub its_own_source_is_one : entries_of 0 3 kept ≡ worst ∷ []
its_own_source_is_one = refl
