use Rattle.std.proofs.Common.{◌≡◌, false, length, rules}
use Rattle.engine.specs.Of.{meaning}
use Rattle.aead.specs.Calls.{long}
use Rattle.aead.specs.Data.{joined}
use Rattle.aead.proofs.Outcomes.{opens_whole}
use Rattle.aead.proofs.opening.open.Goals as goal

pub returns-clause-opened_or_refused : goal.returns-clause-opened_or_refused
returns-clause-opened_or_refused g c =
    let parts = c.in-Some.ensures.cases in
    let run = c.open_steps.ensures in
    let short : long (length (joined c.args.context.now.data)) (length c.in-Some.ciphertext.now) ≡ false = search rules in
    let made : length c.open_steps.new.out ≡ length c.in-Some.ciphertext.now = search rules in
    opens_whole c.args.context.now.key.now c.args.context.now.nonce.now (joined c.args.context.now.data) c.args.sealed.now
    c.args.out.now (meaning g.E.Engine c.args.engine.now) c.in-Some.ciphertext.now c.completed_runs-runs.result c.in-Some.tag.now
    c.open_steps.result c.verify-result.result _ c.open_steps.new.out _ (meaning g.E.Engine c.open_steps.new.engine) _
    parts.2 short (search rules) parts.0 parts.1 made run.paid_or_refused run.text_written c.completed_runs-runs.ensures.all_runs_at_hand
    run.runs_spent c.verify-result.ensures.tags_compared c.settle.ensures.answer_settled c.settle.ensures.refused_output_zero
    c.settle.ensures.words_wiped
