-- A published answer of Ascon-AEAD128.
-- Assumes nothing.
use Rattle.std.specs.Prelude.{◌≡◌, [], ◌∷◌}
use Rattle.std.specs.List.{range_with_len}
use Rattle.aead.specs.Cipher.{sealed}

-- key 00 01 .. 0f, nonce 10 11 .. 1f, one byte 30 of associated data, no text: the sealed text is the tag
abbrev pub PublishedAnswer : Type 0
PublishedAnswer =
    sealed (range_with_len 0x00 16) (range_with_len 0x10 16) (0x30 ∷ []) []
    ≡ 0xcc ∷ 0xcb ∷ 0x67 ∷ 0x4f ∷ 0xe1 ∷ 0x8a ∷ 0x09 ∷ 0xa2 ∷ 0x85 ∷ 0xd6 ∷ 0xab ∷ 0x11 ∷ 0xb3 ∷ 0x56 ∷ 0x75 ∷ 0xc0 ∷ []
