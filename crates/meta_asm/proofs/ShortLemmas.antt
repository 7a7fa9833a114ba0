-- A text with types left out gives its parts.
use Rattle.std.proofs.Common.{◌≡◌, ◌≢◌, ℕ, ◌≤◌, Bool, true, false, List, [], ◌∷◌, ◌++◌, map, All, Option, None, Some, IfSome, codes, refl}
use Rattle.std.proofs.Common.{sym, ap, ap₂, ◌∙◌, append-nil, append_assoc, arith}
use Rattle.std.specs.Option.{option_map}
use Rattle.std.proofs.lemmas.List.Elements.{All-nil, All-cons, All-head, All-tail, All-append, All-map, All-weaker}
use Rattle.meta_lists.proofs.Pushed.{not_empty}
use Rattle.meta_types.specs.TypeParts.{TypeParts, IsType, name_of}
use Rattle.meta_types.proofs.Names.{one_name}
use Rattle.meta_lines.proofs.NameLemmas.{IsDigit, decimal_lacks, name_lacks}
use Rattle.meta_verify.specs.Statement.{TypedValue, Application, IsValue, IsTyped, CanApply, value_text}
use Rattle.meta_verify.proofs.StatementLemmas.{one_written_value}
use Rattle.meta_asm.specs.Short.{Manner, ShortResult, shortened, short_results, type_part, short_result_text, joined, then_part}
use Rattle.meta_asm.specs.Short.{control_written, values_written, results_part, short_application}
use Rattle.meta_asm.specs.PlainNames.{IsPlain}
use Rattle.meta_asm.proofs.SplitLemmas.{Lacks, one_split, lacks_joined, one_joined}

-- ---- the same texts, each place where one may go on after a byte

-- the name and what comes after it: `.i32` or nothing, and ` v0, v1` or nothing
abbrev pub applied_text : List ℕ → Option (List ℕ) → Option (List ℕ) → List ℕ
applied_text name control values = (name ++ then_part 46 control) ++ then_part 32 values

-- the same after the results: `v1, v2 = `, or nothing
abbrev pub after_results : List (List ℕ) → List ℕ → List ℕ
after_results [] rest = rest
after_results (t ∷ ts) rest = joined (t ∷ ts) ++ 32 ∷ [] ++ then_part 61 (Some (32 ∷ rest))

pub results_form : (ts : List (List ℕ)) (rest : List ℕ) → results_part ts ++ rest ≡ after_results ts rest
results_form [] rest = refl
results_form (t ∷ ts) rest = append_assoc (joined (t ∷ ts)) (codes " = ") rest
    ∙ sym (append_assoc (joined (t ∷ ts)) (32 ∷ []) (61 ∷ 32 ∷ rest))

pub split_form : (m : Manner) (a : Application)
    → short_application m a ≡ after_results (map short_result_text (short_results m.opened a.results))
    (applied_text a.name (control_written m.leaves_out a.control a.second) (values_written (map value_text a.values)))
split_form m a =
    results_form (map short_result_text (short_results m.opened a.results)) _
    ∙ ap (after_results (map short_result_text (short_results m.opened a.results)))
    (sym (append_assoc a.name (then_part 46 (control_written m.leaves_out a.control a.second))
    (then_part 32 (values_written (map value_text a.values)))))

-- ---- bytes that don't stand in the parts

-- a byte that is no digit, and none of the letters of values and types
pub record IsMark (byte : ℕ) : Type 0 where
  pub digit : IsDigit byte → ⊥
  pub value : 118 ≢ byte
  pub int : byte ≢ 105
  pub float : byte ≢ 102
  pub lanes : byte ≢ 120
  pub dynamic : byte ≢ 78

pub space : IsMark 32
space = record {
  digit = λ h. (let l : 48 ≤ 32 = h.low in omega arith);
  value = omega arith;
  int = omega arith;
  float = omega arith;
  lanes = omega arith;
  dynamic = omega arith;
}

pub comma : IsMark 44
comma = record {
  digit = λ h. (let l : 48 ≤ 44 = h.low in omega arith);
  value = omega arith;
  int = omega arith;
  float = omega arith;
  lanes = omega arith;
  dynamic = omega arith;
}

pub colon : IsMark 58
colon = record {
  digit = λ h. (let l : 58 ≤ 57 = h.high in omega arith);
  value = omega arith;
  int = omega arith;
  float = omega arith;
  lanes = omega arith;
  dynamic = omega arith;
}

pub equals : IsMark 61
equals = record {
  digit = λ h. (let l : 61 ≤ 57 = h.high in omega arith);
  value = omega arith;
  int = omega arith;
  float = omega arith;
  lanes = omega arith;
  dynamic = omega arith;
}

pub value_lacks : (byte v : ℕ) → IsMark byte → IsValue v → Lacks byte (value_text v)
value_lacks byte v mark h = All-cons (λ b. b ≢ byte) 118 _ mark.value (decimal_lacks byte v (omega arith) mark.digit)

pub type_lacks : (byte : ℕ) (t : TypeParts) → IsMark byte → IsType t → Lacks byte (name_of t)
type_lacks byte t mark h = name_lacks byte t h mark.int mark.float mark.lanes mark.dynamic mark.digit

-- ---- results

-- its value has 32 bits, and its type can be named where it is written
pub record CanBeShort (r : ShortResult) : Type 0 where
  pub value : IsValue r.value
  pub type : IfSome r.type IsType

part_lacks : (byte : ℕ) (t : Option TypeParts) → IsMark byte → 58 ≢ byte → IfSome t IsType → Lacks byte (type_part t)
part_lacks byte None mark other h = All-nil (λ b. b ≢ byte)
part_lacks byte (Some t) mark other h = All-cons (λ b. b ≢ byte) 58 (name_of t) other (type_lacks byte t mark h)

pub result_lacks : (byte : ℕ) (r : ShortResult) → IsMark byte → 58 ≢ byte → CanBeShort r → Lacks byte (short_result_text r)
result_lacks byte r mark other h = All-append (λ b. b ≢ byte) (value_text r.value) (type_part r.type)
    (value_lacks byte r.value mark h.value) (part_lacks byte r.type mark other h.type)

type_after : (t : Option TypeParts) → type_part t ≡ then_part 58 (option_map name_of t)
type_after None = refl
type_after (Some t) = refl

same_type : (t u : Option TypeParts) → IfSome t IsType → IfSome u IsType → option_map name_of t ≡ option_map name_of u → t ≡ u
same_type None None h k e = refl
same_type None (Some u) h k e = absurd (cc)
same_type (Some t) None h k e = absurd (cc)
same_type (Some t) (Some u) h k e = let names : name_of t ≡ name_of u = cc in ap (λ x. Some x) (one_name t u h k names)

pub one_result : (r s : ShortResult) → CanBeShort r → CanBeShort s → short_result_text r ≡ short_result_text s → r ≡ s
one_result r s h k e =
    let both = one_split 58 (value_text r.value) (value_text s.value) (option_map name_of r.type) (option_map name_of s.type)
    (value_lacks 58 r.value colon h.value) (value_lacks 58 s.value colon k.value)
    (ap (λ p. value_text r.value ++ p) (sym (type_after r.type)) ∙ e ∙ ap (λ p. value_text s.value ++ p) (type_after s.type)) in
    let value = one_written_value r.value s.value h.value k.value both.0 in
    let type = same_type r.type s.type h.type k.type both.1 in
    λ i. record { value = value i; type = type i }

-- lists whose texts are equal, where equal texts are of one thing
pub same_of_texts : {X : Type 0} (P : X → Type 0) (text : X → List ℕ) → ((x y : X) → P x → P y → text x ≡ text y → x ≡ y)
    → (xs ys : List X) → All P xs → All P ys → map text xs ≡ map text ys → xs ≡ ys
same_of_texts P text one [] [] h k e = refl
same_of_texts P text one [] (y ∷ ys) h k e = absurd (cc)
same_of_texts P text one (x ∷ xs) [] h k e = absurd (cc)
same_of_texts P text one (x ∷ xs) (y ∷ ys) h k e =
    let first : text x ≡ text y = cc in
    let others : map text xs ≡ map text ys = cc in
    ap₂ ◌∷◌ (one x y (All-head P x xs h) (All-head P y ys k) first)
    (same_of_texts P text one xs ys (All-tail P x xs h) (All-tail P y ys k) others)

-- ---- the parts of a line

pub control_lacks : (byte : ℕ) (leaves_out : Bool) (c d : Option TypeParts) → IsMark byte → 47 ≢ byte → 46 ≢ byte → IfSome c IsType
    → IfSome d IsType → Lacks byte (then_part 46 (control_written leaves_out c d))
control_lacks byte leaves_out None d mark slash point h k = All-nil (λ b. b ≢ byte)
control_lacks byte true (Some c) None mark slash point h k = All-nil (λ b. b ≢ byte)
control_lacks byte false (Some c) None mark slash point h k = All-cons (λ b. b ≢ byte) 46 (name_of c) point (type_lacks byte c mark h)
control_lacks byte leaves_out (Some c) (Some d) mark slash point h k =
    All-cons (λ b. b ≢ byte) 46 (name_of c ++ 47 ∷ name_of d) point
    (All-append (λ b. b ≢ byte) (name_of c) (47 ∷ name_of d) (type_lacks byte c mark h)
    (All-cons (λ b. b ≢ byte) 47 (name_of d) slash (type_lacks byte d mark k)))

pub values_lack : (byte : ℕ) (vs : List ℕ) → IsMark byte → 44 ≢ byte → 32 ≢ byte → All IsValue vs
    → Lacks byte (then_part 32 (values_written (map value_text vs)))
values_lack byte [] mark no_comma no_space h = All-nil (λ b. b ≢ byte)
values_lack byte (v ∷ vs) mark no_comma no_space h =
    All-cons (λ b. b ≢ byte) 32 _ no_space (lacks_joined byte (map value_text (v ∷ vs)) no_comma no_space
    (All-map (Lacks byte) value_text (v ∷ vs) (All-weaker IsValue (λ u. Lacks byte (value_text u)) (λ u is. value_lacks byte u mark is)
    (v ∷ vs) h)))

one_applied : (n m : List ℕ) (c d p q : Option (List ℕ)) → IsPlain n → IsPlain m → Lacks 32 (then_part 46 c) → Lacks 32 (then_part 46 d)
    → applied_text n c p ≡ applied_text m d q → (n ≡ m) × (c ≡ d) × (p ≡ q)
one_applied n m c d p q hn hm hc hd e =
    let heads = one_split 32 (n ++ then_part 46 c) (m ++ then_part 46 d) p q (All-append (λ b. b ≢ 32) n (then_part 46 c) hn.space hc)
    (All-append (λ b. b ≢ 32) m (then_part 46 d) hm.space hd) e in
    let names = one_split 46 n m c d hn.point hm.point heads.0 in
    (names.0, names.1, heads.1)

same_front : (c : ℕ) (xs ys : List ℕ) → xs ++ c ∷ [] ≡ ys ++ c ∷ [] → xs ≡ ys
same_front c [] [] e = refl
same_front c [] (y ∷ ys) e = let none : ys ++ c ∷ [] ≡ [] = cc in absurd (not_empty ys c none)
same_front c (x ∷ xs) [] e = let none : xs ++ c ∷ [] ≡ [] = cc in absurd (not_empty xs c none)
same_front c (x ∷ xs) (y ∷ ys) e =
    let first : x ≡ y = cc in
    let others : xs ++ c ∷ [] ≡ ys ++ c ∷ [] = cc in
    ap₂ ◌∷◌ first (same_front c xs ys others)

pub front_lacks : (ts : List (List ℕ)) → All (Lacks 61) ts → Lacks 61 (joined ts ++ 32 ∷ [])
front_lacks ts h = All-append (λ b. b ≢ 61) (joined ts) (32 ∷ []) (lacks_joined 61 ts (omega arith) (omega arith) h)
    (All-cons (λ b. b ≢ 61) 32 [] (omega arith) (All-nil (λ b. b ≢ 61)))

one_results : (ts us : List (List ℕ)) (rest other : List ℕ) → Lacks 61 rest → Lacks 61 other → All (Lacks 61) ts → All (Lacks 61) us
    → All (Lacks 44) ts → All (Lacks 44) us → after_results ts rest ≡ after_results us other → (ts ≡ us) × (rest ≡ other)
one_results [] [] rest other hr ho ht hu ct cu e = (refl, e)
one_results [] (u ∷ us) rest other hr ho ht hu ct cu e =
    let both = one_split 61 rest (joined (u ∷ us) ++ 32 ∷ []) None (Some (32 ∷ other)) hr (front_lacks (u ∷ us) hu) (append-nil rest ∙ e) in
    let none : None ≡ Some (32 ∷ other) = both.1 in
    absurd (cc)
one_results (t ∷ ts) [] rest other hr ho ht hu ct cu e =
    let both = one_split 61 (joined (t ∷ ts) ++ 32 ∷ []) other (Some (32 ∷ rest)) None (front_lacks (t ∷ ts) ht) ho (e
    ∙ sym (append-nil other)) in
    let none : Some (32 ∷ rest) ≡ None = both.1 in
    absurd (cc)
one_results (t ∷ ts) (u ∷ us) rest other hr ho ht hu ct cu e =
    let both = one_split 61 (joined (t ∷ ts) ++ 32 ∷ []) (joined (u ∷ us) ++ 32 ∷ []) (Some (32 ∷ rest)) (Some (32 ∷ other))
    (front_lacks (t ∷ ts) ht) (front_lacks (u ∷ us) hu) e in
    let rests : Some (32 ∷ rest) ≡ Some (32 ∷ other) = both.1 in
    let same : rest ≡ other = cc in
    (one_joined t u ts us ct cu (same_front 32 (joined (t ∷ ts)) (joined (u ∷ us)) both.0), same)

one_values : (vs us : List ℕ) → All IsValue vs → All IsValue us → values_written (map value_text vs) ≡ values_written (map value_text us)
    → vs ≡ us
one_values [] [] h k e = refl
one_values [] (u ∷ us) h k e = absurd (cc)
one_values (v ∷ vs) [] h k e = absurd (cc)
one_values (v ∷ vs) (u ∷ us) h k e =
    let lists : joined (map value_text (v ∷ vs)) ≡ joined (map value_text (u ∷ us)) = cc in
    same_of_texts IsValue value_text one_written_value (v ∷ vs) (u ∷ us) h k
    (one_joined (value_text v) (value_text u) (map value_text vs) (map value_text us) (texts_lack (v ∷ vs) h) (texts_lack (u ∷ us) k) lists)
  where
    texts_lack : (xs : List ℕ) → All IsValue xs → All (Lacks 44) (map value_text xs)
    texts_lack xs h =
        All-map (Lacks 44) value_text xs (All-weaker IsValue (λ u. Lacks 44 (value_text u)) (λ u is. value_lacks 44 u comma is) xs h)

-- the results with the types that are written can be written
short_can : (opened : List Bool) (rs : List TypedValue) → All IsTyped rs → All CanBeShort (short_results opened rs)
short_can opened [] h = All-nil CanBeShort
short_can [] (r ∷ rs) h = All-cons CanBeShort (shortened false r) (short_results [] rs)
    (record { value = (All-head IsTyped r rs h).value; type = tt }) (short_can [] rs (All-tail IsTyped r rs h))
short_can (true ∷ os) (r ∷ rs) h =
    All-cons CanBeShort (shortened true r) (short_results os rs) (record {
      value = (All-head IsTyped r rs h).value;
      type = (All-head IsTyped r rs h).is_type;
    }) (short_can os rs (All-tail IsTyped r rs h))
short_can (false ∷ os) (r ∷ rs) h = All-cons CanBeShort (shortened false r) (short_results os rs)
    (record { value = (All-head IsTyped r rs h).value; type = tt }) (short_can os rs (All-tail IsTyped r rs h))

pub short_lacks : (byte : ℕ) (opened : List Bool) (rs : List TypedValue) → IsMark byte → 58 ≢ byte → All IsTyped rs
    → All (Lacks byte) (map short_result_text (short_results opened rs))
short_lacks byte opened rs mark other h =
    All-map (Lacks byte) short_result_text (short_results opened rs)
    (All-weaker CanBeShort (λ r. Lacks byte (short_result_text r)) (λ r is. result_lacks byte r mark other is)
    (short_results opened rs) (short_can opened rs h))

-- what a text gives of the two applications that it may be of
pub record AreSameParts (m n : Manner) (a b : Application) : Type 0 where
  pub names : a.name ≡ b.name
  pub controls : control_written m.leaves_out a.control a.second ≡ control_written n.leaves_out b.control b.second
  pub results : short_results m.opened a.results ≡ short_results n.opened b.results
  pub values : a.values ≡ b.values

pub same_line_parts : (m n : Manner) (a b : Application) → IsPlain a.name → IsPlain b.name → CanApply a → CanApply b
    → short_application m a ≡ short_application n b → AreSameParts m n a b
same_line_parts m n a b pa pb ha hb e =
    let ra = short_can m.opened a.results ha.results in
    let rb = short_can n.opened b.results hb.results in
    let lines = one_results (map short_result_text (short_results m.opened a.results))
    (map short_result_text (short_results n.opened b.results)) _ _
    (applied_lacks m a pa ha) (applied_lacks n b pb hb) (short_lacks 61 m.opened a.results equals (omega arith) ha.results)
    (short_lacks 61 n.opened b.results equals (omega arith) hb.results)
    (short_lacks 44 m.opened a.results comma (omega arith) ha.results) (short_lacks 44 n.opened b.results comma (omega arith) hb.results)
    (sym (split_form m a) ∙ e ∙ split_form n b) in
    let parts = one_applied a.name b.name (control_written m.leaves_out a.control a.second)
    (control_written n.leaves_out b.control b.second) _ _ pa pb
    (control_lacks 32 m.leaves_out a.control a.second space (omega arith) (omega arith) ha.control ha.second)
    (control_lacks 32 n.leaves_out b.control b.second space (omega arith) (omega arith) hb.control hb.second) lines.1 in
    record {
      names = parts.0;
      controls = parts.1;
      results = same_of_texts CanBeShort short_result_text one_result _ _ ra rb lines.0;
      values = one_values a.values b.values ha.values hb.values parts.2;
    }
  where
    applied_lacks : (m : Manner) (a : Application) → IsPlain a.name → CanApply a
        → Lacks 61 (applied_text a.name (control_written m.leaves_out a.control a.second) (values_written (map value_text a.values)))
    applied_lacks m a pa ha =
        All-append (λ b. b ≢ 61) (a.name ++ then_part 46 (control_written m.leaves_out a.control a.second))
        (then_part 32 (values_written (map value_text a.values)))
        (All-append (λ b. b ≢ 61) a.name (then_part 46 (control_written m.leaves_out a.control a.second)) pa.equals
        (control_lacks 61 m.leaves_out a.control a.second equals (omega arith) (omega arith) ha.control ha.second))
        (values_lack 61 a.values equals (omega arith) (omega arith) ha.values)
