-- Frames and nonces are told apart by what they are made of.
-- Assumes nothing.
use Rattle.std.proofs.Common.{◌≡◌, ℕ, List, ◌++◌, length, take, drop, Ok, Result, sym, ap, ◌∙◌, arith}
use Rattle.aead.specs.Cipher.{unsealed}
use Rattle.aead.proofs.Inverse.{sealed_opens}
use Rattle.frame.specs.Bytes.{number_of}
use Rattle.frame.specs.Frame.{fields_of, nonce, sealed_body, trailer}
use Rattle.frame.specs.Laws.{FramesToldApart, NoncesToldApart}
use Rattle.frame.specs.Reading.{Parts, reading}
use Rattle.frame.specs.declared.fault.LinkFault.{LinkFault}
use Rattle.frame.proofs.Framed.{framed_reads_back}
use Rattle.frame.proofs.Numbers.{number_fits}

pub nonces_told_apart : NoncesToldApart
nonces_told_apart s n s' n' named named' = (
  λ e. (
    sym (number_fits 4 s (omega arith)) ∙ ap (λ x. number_of (take 4 x)) e ∙ number_fits 4 s' (omega arith),
    sym (number_fits 6 n (omega arith)) ∙ ap (λ x. number_of (drop 10 x)) e ∙ number_fits 6 n' (omega arith),
  ),
  λ e. cc (e.0, e.1),
)

pub frames_told_apart : FramesToldApart
frames_told_apart = record {
  exactly = λ key h b h' b' s n s' n' named within bytes named' within' bytes'. (
    λ e.
        let read : (h b : List ℕ) (s n : ℕ) → Parts = λ h b s n. record {
          header = h;
          ciphertext = take (length b) (sealed_body key s n h b);
          tag = drop (length b) (sealed_body key s n h b);
          sealed = sealed_body key s n h b;
          trailer = trailer (fields_of s n h b);
          fields = fields_of s n h b;
        } in
        let p = read h b s n in
        let q = read h' b' s' n' in
        let r : ◌≡◌ {A = Result Parts LinkFault} (Ok p) (Ok q) =
        sym (framed_reads_back key h b s n named within) ∙ ap reading e ∙ framed_reads_back key h' b' s' n' named' within'
        in
        let same : p ≡ q = cc in
        let opened : Parts → List ℕ = λ (x : Parts). unsealed key (nonce x.fields.station x.fields.number) (x.header ++ x.trailer) x.ciphertext in
        let body : b ≡ b' =
        sym (sealed_opens key (nonce s n) (h ++ trailer (fields_of s n h b)) b bytes).0 ∙ ap opened same ∙ (sealed_opens key (nonce s' n') (h' ++ trailer (fields_of s' n' h' b')) b' bytes').0
        in
        (ap (λ (x : Parts). x.fields.station) same, ap (λ (x : Parts). x.fields.number) same, ap (λ (x : Parts). x.header) same, body),
    λ e. cc (e.0, e.1, e.2, e.3),
  );
}
