use Rattle.std.proofs.Common.{ltb, length, sym, ap, ◌∙◌, arith}
use Rattle.std.proofs.lemmas.Bool.{cond-false, le-ltb}
use Rattle.instructions.specs.Meaning.{instructs}
use Rattle.instructions.proofs.parse.parse_line.Goals as goal

pub returns : goal.returns
returns c =
    c.instructed.ensures ∙ ap instructs c.new-words.ensures.value ∙ sym (cond-false (ltb 120 (length c.args.line.now)) _ _ (le-ltb 120 (length c.args.line.now) (omega arith)))
