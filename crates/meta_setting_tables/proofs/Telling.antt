-- What needs an escape can be told, so that a description needs none where it can't fail to.
use Rattle.std.proofs.Common.{◌≡◌, ℕ, ◌≤◌, List, All, inl, inr}
use Rattle.std.proofs.lemmas.Bool.{cases_eq}
use Rattle.meta_types.proofs.Decided.{Decided, so, decided_both, decided_le, decided_each}
use Rattle.meta_settings.specs.GroupFaults.{IsPlainByte}

decided_plain_byte : (c : ℕ) → Decided (IsPlainByte c)
decided_plain_byte c = go (decided_both (decided_le 0x20 c) (decided_le c 0x7e)) (cases_eq c 34) (cases_eq c 92)
  where
    go : Decided ((0x20 ≤ c) × (c ≤ 0x7e)) → Decided (c ≡ 34) → Decided (c ≡ 92) → Decided (IsPlainByte c)
    go (inr n) q b = inr (λ h. n (h.least, h.most))
    go (inl r) (inl q) b = inr (λ h. h.no_quote q)
    go (inl r) (inr q) (inl b) = inr (λ h. h.no_backslash b)
    go (inl r) (inr q) (inr b) = inl (record { least = r.0; most = r.1; no_quote = q; no_backslash = b })

pub plain_so : (text : List ℕ) → ((All IsPlainByte text → ⊥) → ⊥) → All IsPlainByte text
plain_so text = so (decided_each IsPlainByte decided_plain_byte text)
