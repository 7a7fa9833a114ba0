-- Details that compare equal are the same.
use Rattle.std.proofs.Common.{rules, ◌≡◌, true, refl, sym, ap, ◌∙◌}
use Rattle.std.specs.Bool.{Decides}
use Rattle.std.proofs.lemmas.Bool.Decides.{Decides-eqb}
use Rattle.meta_setting_tables.specs.contracts.descriptor.DetailPartialEq.TheImpl.{eq-value as detail_eq}
use Rattle.meta_setting_tables.specs.declared.descriptor.Detail.{Detail}
use Rattle.meta_setting_tables.specs.declared.descriptor.Detail.TheVariants.{Bool as ABool, Enum as AnEnum, Num as ANum, Preset as APreset}

-- two details, and two descriptors
detail_is : (a b : Detail) → detail_eq.it a b ≡ true → a ≡ b
detail_is (ABool m) (ABool n) e = ap ABool ((Decides-eqb m n).0 (search rules))
detail_is (ABool m) (AnEnum p q) e = absurd (cc)
detail_is (ABool m) ANum e = absurd (cc)
detail_is (ABool m) APreset e = absurd (cc)
detail_is (AnEnum m n) (ABool p) e = absurd (cc)
detail_is (AnEnum m n) (AnEnum p q) e =
    let last : m ≡ p = search rules in
    let place : n ≡ q = search rules in
    λ i. AnEnum (last i) (place i)
detail_is (AnEnum m n) ANum e = absurd (cc)
detail_is (AnEnum m n) APreset e = absurd (cc)
detail_is ANum (ABool n) e = absurd (cc)
detail_is ANum (AnEnum p q) e = absurd (cc)
detail_is ANum ANum e = refl
detail_is ANum APreset e = absurd (cc)
detail_is APreset (ABool n) e = absurd (cc)
detail_is APreset (AnEnum p q) e = absurd (cc)
detail_is APreset ANum e = absurd (cc)
detail_is APreset APreset e = refl

own_detail : (a : Detail) → detail_eq.it a a ≡ true
own_detail (ABool m) = search rules
own_detail (AnEnum m n) = search rules
own_detail ANum = refl
own_detail APreset = refl

is_detail : (a b : Detail) → a ≡ b → detail_eq.it a b ≡ true
is_detail a b e = ap (detail_eq.it a) (sym e) ∙ own_detail a

pub detail_decides : (a b : Detail) → Decides (detail_eq.it a b) (a ≡ b)
detail_decides a b = (detail_is a b, is_detail a b)
