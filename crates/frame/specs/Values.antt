-- Worked values of the frame.
-- Assumes nothing.
use Rattle.std.specs.Prelude.{◌≡◌, [], ◌∷◌}
use Rattle.frame.specs.Frame.{cost, frame_length, nonce, trailer}

pub record FrameValues : Type 0 where
  -- station 0x0a000001, number 5, a header of 3 bytes, a body of 20
  pub example_trailer : trailer (record { number = 5; station = 0x0a000001; header = 3; body = 20 })
      ≡ 0x00 ∷ 0x00 ∷ 0x00 ∷ 0x00 ∷ 0x00 ∷ 0x05 ∷ 0x0a ∷ 0x00 ∷ 0x00 ∷ 0x01 ∷ 0x00 ∷ 0x03 ∷ 0x00 ∷ 0x14 ∷ 0xa5 ∷ 0x01 ∷ []
  pub example_nonce : nonce 0x0a000001 5
      ≡ 0x0a ∷ 0x00 ∷ 0x00 ∷ 0x01 ∷ 0x00 ∷ 0x00 ∷ 0x00 ∷ 0x00 ∷ 0x00 ∷ 0x00 ∷ 0x00 ∷ 0x00 ∷ 0x00 ∷ 0x00 ∷ 0x00 ∷ 0x05 ∷ []
  pub example_length : frame_length 3 20 ≡ 55
  pub example_cost : cost 3 20 ≡ 5
  pub empty_length : frame_length 0 0 ≡ 32
  pub empty_cost : cost 0 0 ≡ 4
  pub longest_length : frame_length 256 1200 ≡ 1488
  pub longest_cost : cost 256 1200 ≡ 95
