use Rattle.std.proofs.Common.{rules, arith}
use Rattle.std.proofs.lemmas.Map.Text.{text_keys}
use Rattle.ghes_outside.proofs.mem_files.MemFiles.add.Goals as goal

pub returns-clause-ok : goal.returns-clause-ok
returns-clause-ok c = record {
  set = grind (arith, text_keys);
  others = λ other differs. grind (arith, text_keys);
  loads = search rules;
}
