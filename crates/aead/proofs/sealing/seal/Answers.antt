use Rattle.std.proofs.Common.{◌≡◌, ◌+◌, length, refl, rules}
use Rattle.engine.specs.Of.{meaning}
use Rattle.aead.specs.Data.{joined}
use Rattle.aead.proofs.Outcomes.{lifted, seals_whole}
use Rattle.aead.proofs.sealing.seal.Goals as goal

pub returns-clause-sealed_or_refused : goal.returns-clause-sealed_or_refused
returns-clause-sealed_or_refused g c =
    let size : length c.seal_into.new.out ≡ length c.args.text.now + 16 = search rules in
    let lift : c.map_err-result.result ≡ lifted c.seal_into.result = search rules in
    seals_whole c.args.context.now.key.now c.args.context.now.nonce.now (joined c.args.context.now.data) c.args.text.now
    c.args.out.now (meaning g.E.Engine c.args.engine.now) _ c.completed_runs-runs.result c.seal_into.result
    c.map_err-result.result _ c.seal_into.new.out _ (meaning g.E.Engine c.seal_into.new.engine) _
    refl (search rules) (search rules) size c.seal_into.ensures.paid_or_refused c.seal_into.ensures.sealed_written
    c.completed_runs-runs.ensures.all_runs_at_hand c.seal_into.ensures.runs_spent lift
    c.settle.ensures.answer_settled c.settle.ensures.refused_output_zero c.settle.ensures.words_wiped
