use Rattle.std.proofs.Common.{◌≡◌, ℕ, ◌*◌, ◌+◌, ◌-◌, ◌^◌, ◌<◌, length, min, get_or, sym, ap, ◌∙◌, arith, rules}
use Rattle.std.proofs.lemmas.List.{ext_get_or, length-append}
use Rattle.aead.specs.Bytes.{padded}
use Rattle.aead.specs.Data.{joined}
use Rattle.aead.proofs.Bytes.{get_or_block, length_block}
use Rattle.aead.proofs.Made.{made_by}
use Rattle.aead.proofs.data.Joined.block.Goals as goal

pub returns-2 : goal.returns-2
returns-2 c =
    let parts = c.args.self.now in
    let bytes = joined parts in
    let start = c.saturating_mul-start.result in
    let items = c.from_fn.ensures.items in
    record {
      block_is =
          λ within.
          let first : length parts.front.now < 2 ^ 63 = search rules in
          let second : length parts.back.now < 2 ^ 63 = search rules in
          let room = simp length-append at within in
          ext_get_or 0 _ _ (items.long ∙ sym (length_block bytes c.args.index within))
          (λ k lt.
          let place : min (start + k) (2 ^ 64 - 1) ≡ 16 * c.args.index + k = omega (arith, c.saturating_mul-start.ensures) in
          made_by _ (λ (k : ℕ). get_or (padded bytes) (min (start + k) (2 ^ 64 - 1)) 0) _ (λ x y q call. search rules) c.from_fn.result 0 16 k k items.each (omega arith) (omega arith)
          ∙ ap (λ (j : ℕ). get_or (padded bytes) j 0) place
          ∙ sym (get_or_block bytes c.args.index k (omega arith)));
    }
