-- What a failed load leaves, and how loads follow one another.
use Rattle.std.proofs.Common.{◌≡◌, ◌≤◌, ℕ, List, [], ◌∷◌, ◌++◌, Option, Some, None, Result, Ok, Err, refl, sym, ap, subst, ◌∙◌, arith, append-nil, append_assoc}
use Rattle.std.specs.Option.{option_map}
use Rattle.std.specs.List.{AllByRecursion}
use Rattle.ghes_outside.specs.Outside.{FilesSeen, Agrees, Rose, IsLonger, names_after}
use Rattle.ghes_outside.specs.declared.files.LoadError.{LoadError}
use Rattle.ghes_outside.specs.declared.files.LoadError.TheVariants as loads
use Rattle.ghes_replay.specs.declared.exit.InputFile.{InputFile}
use Rattle.ghes_replay.specs.declared.exit.Refusal.{Refusal}
use Rattle.ghes_replay.specs.declared.exit.Refusal.TheVariants as refusals
use Rattle.ghes_replay.specs.Loading.{LoadCause, LoadsFile, load_refusal}
use Rattle.ghes_replay.specs.Seen.{Loads, NoneFailed, IsLoaded, limit_for}

-- no new name
adds_none : (told : Option (List (List ℕ))) → told ≡ option_map (λ old. old ++ []) told
adds_none None = refl
adds_none (Some names) = ap (λ xs. Some xs) (sym (append-nil names))

-- one list of new names, and then another
adds_both : (told : Option (List (List ℕ))) (xs ys : List (List ℕ)) → option_map (λ old. old ++ ys) (option_map (λ old. old ++ xs) told) ≡ option_map (λ old. old ++ (xs ++ ys)) told
adds_both None xs ys = refl
adds_both (Some names) xs ys = ap (λ zs. Some zs) (append_assoc names xs ys)

-- all names of one list and then of another
each_of_both : (P : List ℕ → Type 0) (xs ys : List (List ℕ)) → AllByRecursion P xs → AllByRecursion P ys → AllByRecursion P (xs ++ ys)
each_of_both P [] ys all_xs all_ys = all_ys
each_of_both P (x ∷ xs) ys all_xs all_ys = (all_xs.0, each_of_both P xs ys all_xs.1 all_ys)

each_weaker : (P Q : List ℕ → Type 0) (xs : List (List ℕ)) → ((x : List ℕ) → P x → Q x) → AllByRecursion P xs → AllByRecursion Q xs
each_weaker P Q [] weaker all = tt
each_weaker P Q (x ∷ xs) weaker all = (weaker x all.0, each_weaker P Q xs weaker all.1)

-- names of a kind are names of a wider kind
pub loads_weaker : (P Q : List ℕ → Type 0) (before after : FilesSeen) → ((x : List ℕ) → P x → Q x) → Loads P before after → Loads Q before after
loads_weaker P Q before after weaker l = record { contents = l.contents; grows = l.grows; names = l.names; added = l.added; each = each_weaker P Q l.names weaker l.each }

-- loads after loads
pub loads_both : (P : List ℕ → Type 0) (before middle after : FilesSeen) → Loads P before middle → Loads P middle after → Loads P before after
loads_both P before middle after first second = record {
  contents = λ name. second.contents name ∙ first.contents name;
  grows = omega (arith, first.grows, second.grows);
  names = first.names ++ second.names;
  added = second.added ∙ ap (option_map (λ (old : List (List ℕ)). old ++ second.names)) first.added ∙ adds_both before.failed first.names second.names;
  each = each_of_both P first.names second.names first.each second.each;
}

-- no file was touched
pub no_loads : (P : List ℕ → Type 0) (seen : FilesSeen) → Loads P seen seen
no_loads P seen = record { contents = λ name. refl; grows = omega arith; names = []; added = adds_none seen.failed; each = tt }

-- no load failed, twice
pub none_both : (before middle after : FilesSeen) → NoneFailed before middle → NoneFailed middle after → NoneFailed before after
none_both before middle after first second = record { names = second.names ∙ first.names; count = second.count ∙ first.count }

pub none_in : (seen : FilesSeen) → NoneFailed seen seen
none_in seen = record { names = refl; count = refl }

abbrev pub not_loaded : LoadError → Result (Unit {0}) LoadError
not_loaded why = Err why

-- what a load that ended with an error leaves of the files
pub record FailedLoad (before after : FilesSeen) (name : List ℕ) (limit : ℕ) (why : LoadError) : Type 0 where
  pub failed : not_loaded why ≡ not_loaded loads.Failed → Rose before.faults after.faults
  pub too_long : not_loaded why ≡ not_loaded loads.TooLong → IsLonger (before.contents name) limit
  pub unfailed : (not_loaded why ≡ not_loaded loads.Failed → ⊥) → after.faults ≡ before.faults
  pub names : after.failed ≡ names_after (not_loaded why) name before.failed
  pub contents : (other : List ℕ) → after.contents other ≡ before.contents other
  pub grows : before.faults ≤ after.faults

loads_by : (before after : FilesSeen) (name : List ℕ) (limit : ℕ) (why : LoadError) → FailedLoad before after name limit why → Loads (λ other. other ≡ name) before after
loads_by before after name limit loads.Failed f = record { contents = f.contents; grows = f.grows; names = name ∷ []; added = f.names; each = (refl, tt) }
loads_by before after name limit loads.TooLong f = record { contents = f.contents; grows = f.grows; names = []; added = f.names ∙ adds_none _; each = tt }
loads_by before after name limit loads.OutOfMemory f = record { contents = f.contents; grows = f.grows; names = []; added = f.names ∙ adds_none _; each = tt }

too_long_is_no_failure : not_loaded loads.TooLong ≡ not_loaded loads.Failed → ⊥
too_long_is_no_failure same = cc

-- what a file that is not loaded answers
pub file_not_loaded : (before after : FilesSeen) (file : InputFile) (name : List ℕ) (limit : ℕ) (why : LoadError) → limit ≡ limit_for file → FailedLoad before after name limit why → LoadsFile before after file name (Err (load_refusal file why))
file_not_loaded before after file name limit loads.Failed same f = record {
  loads = loads_by before after name limit loads.Failed f;
  unfailed = tt;
  counted = tt;
  found = tt;
  refused = (refl, f.failed refl, f.names);
}
file_not_loaded before after file name limit loads.TooLong same f =
    let P : ℕ → Type 0 = λ l. IsLonger (before.contents name) l in
    record {
      loads = loads_by before after name limit loads.TooLong f;
      unfailed = tt;
      counted = record { names = f.names; count = f.unfailed too_long_is_no_failure };
      found = tt;
      refused = (refl, subst P same (f.too_long refl));
    }
file_not_loaded before after file name limit loads.OutOfMemory same f = record {
  loads = loads_by before after name limit loads.OutOfMemory f;
  unfailed = tt;
  counted = tt;
  found = tt;
  refused = tt;
}

-- what a file that is loaded answers
pub file_loaded : (before after : FilesSeen) (file : InputFile) (name bytes : List ℕ) → after.failed ≡ before.failed → after.faults ≡ before.faults → ((other : List ℕ) → after.contents other ≡ before.contents other) → IsLoaded before file name bytes → LoadsFile before after file name (Ok bytes)
file_loaded before after file name bytes names count contents loaded = record {
  loads = record { contents = contents; grows = omega (arith, count); names = []; added = names ∙ adds_none _; each = tt };
  unfailed = record { names = names; count = count };
  counted = tt;
  found = loaded;
  refused = tt;
}

-- what is loaded later is what is told before
pub loaded_earlier : (before middle : FilesSeen) (file : InputFile) (name bytes : List ℕ) → middle.contents name ≡ before.contents name → IsLoaded middle file name bytes → IsLoaded before file name bytes
loaded_earlier before middle file name bytes same l =
    let P : Option (List ℕ) → Type 0 = λ told. Agrees told bytes in
    record { told = subst P same l.told; within = l.within }

-- the cause of a later refusal, told of the whole
pub cause_earlier : (before middle after : FilesSeen) (file : InputFile) (name : List ℕ) (refusal : Refusal) → middle.contents name ≡ before.contents name → NoneFailed before middle → LoadCause middle after file name refusal → LoadCause before after file name refusal
cause_earlier before middle after file name (refusals.Load which loads.Failed) same none (is, rose, added) =
    (is, omega (arith, none.count, rose), added ∙ ap (option_map (λ (old : List (List ℕ)). old ++ name ∷ [])) none.names)
cause_earlier before middle after file name (refusals.Load which loads.TooLong) same none (is, longer) =
    let P : Option (List ℕ) → Type 0 = λ told. IsLonger told (limit_for file) in
    (is, subst P same longer)
cause_earlier before middle after file name refusals.OutOfMemory same none cause = tt
cause_earlier before middle after file name other same none cause = absurd cause
