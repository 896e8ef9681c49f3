use Rattle.std.proofs.Common.{List, map, None, Result, ap, ◌∙◌}
use Rattle.std.proofs.lemmas.Result.{IfOk-weaker}
use Rattle.register.specs.Holdings.{Holdings}
use Rattle.terms.specs.declared.calls.Answer.{Answer}
use Rattle.terms.specs.declared.calls.Refusal.{Refusal}
use Rattle.definitions.specs.Runs.{answers}
use Rattle.definitions.specs.States.{opening}
use Rattle.book.specs.declared.runs.Entry.{Entry}
use Rattle.image.specs.Image.{imaged}
use Rattle.words.specs.Parts.{lines}
use Rattle.desk.specs.Plan.{told}
use Rattle.desk.proofs.day.answer_run.Goals as goal

pub returns-in-Ok : goal.returns-in-Ok
returns-in-Ok c =
    let zero = ap imaged (c.new-register.ensures.same ∙ c.as_mut_slice.ensures.value) ∙ c.in_ok-bytes.ensures in
    let answered =
    ap (map (λ (e : Entry). e.answer)) c.as_slice.ensures.value ∙ c.in-Ok.ensures.answered
    ∙ ap (λ (h : Holdings). answers (opening h c.args.day) c.args.calls.now) zero in
    IfOk-weaker c.reply_all.result _ _
    (λ s e. e ∙ ap (λ (vs : List (Result Answer Refusal)). told 1 None vs (lines c.args.text.now)) answered)
    c.reply_all.ensures
