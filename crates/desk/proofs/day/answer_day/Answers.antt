use Rattle.std.proofs.Common.{sym, ◌∙◌, arith}
use Rattle.std.proofs.lemmas.Result.{IfOk-weaker}
use Rattle.desk.proofs.Passes.{never_open, once_open}
use Rattle.desk.proofs.day.answer_day.Goals as goal

pub returns-in-None : goal.returns-in-None
returns-in-None c =
    let plan = c.in_ok-plan.ensures in
    IfOk-weaker c.reply_all.result _ _ (λ s e. e ∙ never_open c.args.text.now (omega arith) (sym plan.0 ∙ c.in-None.is)) c.reply_all.ensures

pub returns : goal.returns
returns c =
    let plan = c.in_ok-plan.ensures in
    IfOk-weaker c.answer_run.result _ _
    (λ s e. e ∙ once_open c.args.text.now (omega arith) c.in-Some.day c.as_slice.result.now (sym plan.0 ∙ c.in-Some.is) (c.as_slice.ensures.value ∙ plan.1))
    c.answer_run.ensures
