-- For one environment a text reads as one line at most, by tables.
use Rattle.std.proofs.Common.{◌≡◌, ◌≢◌, inl, inr, ℕ, zero, suc, ◌≤◌, ◌/◌, ◌%◌, ◌==◌, Bool, true, false, List, [], ◌∷◌, ◌++◌, map, All}
use Rattle.std.proofs.Common.{get_or, slice_get, Option, None, Some, IfSome, codes, refl, sym, ap, ◌∙◌, subst, append-nil, arith}
use Rattle.std.specs.Option.{option_map}
use Rattle.std.specs.List.{join_with_byte}
use Rattle.std.proofs.lemmas.Bool.{and_parts}
use Rattle.std.proofs.lemmas.Option.{same_Some}
use Rattle.std.proofs.lemmas.List.Elements.{All-nil, All-cons, All-head, All-append, All-weaker}
use Rattle.meta_lists.specs.First.{IsFirst}
use Rattle.meta_lists.proofs.Mapped.{get_map}
use Rattle.meta_types.specs.Name.{IsLetter, IsNameByte, IsName}
use Rattle.meta_types.specs.TypeParts.{TypeParts, IsType, number_of, name_of}
use Rattle.meta_types.proofs.Names.{one_name}
use Rattle.meta_types.proofs.Numbers.{one_number}
use Rattle.meta_inst.specs.Tables.{TableContents, OpcodeNumbers, Allows, at_opcode, no_type_set}
use Rattle.meta_gen.specs.Contents.{IsOpcodeNamed}
use Rattle.meta_gen.specs.WellFormedOpcodes.{IsWellFormedOpcodes}
use Rattle.meta_lists.proofs.Everywhere.{at_place}
use Rattle.meta_lines.specs.Control.{control_text, IsAfter}
use Rattle.meta_lines.proofs.ControlLemmas.{same_controls}
use Rattle.meta_gen.specs.Reply.{AllowedReply}
use Rattle.meta_verify.specs.Statement.{TypedValue, Application, Statement, OfParameter, OfApplication, IsValue, IsTyped, CanApply}
use Rattle.meta_verify.specs.Statement.{CanBeStated, value_text, words_of}
use Rattle.meta_verify.specs.Environment.{Environment, HaveTypes}
use Rattle.meta_verify.specs.Wrong.{Replies, IsAccepted, IsFaultless}
use Rattle.meta_verify.proofs.StatementLemmas.{one_written_value, one_statement}
use Rattle.meta_verify.proofs.OneAnswer.{same_found_types}
use Rattle.meta_lists.proofs.First.{one_first}
use Rattle.meta_asm.specs.Short.{Manner, short_results, short_result_text, joined, then_part, control_written, values_written}
use Rattle.meta_asm.specs.Short.{parameter_text, short_application, short_text}
use Rattle.meta_asm.specs.PlainNames.{IsPlain}
use Rattle.meta_asm.specs.Manners.{is_control, value_constraints, manner_of, IsMannerIn}
use Rattle.meta_asm.specs.Reading.{Manners, HasManner, IsShort, IsShortIn}
use Rattle.meta_asm.proofs.SplitLemmas.{Lacks, one_split}
use Rattle.meta_asm.proofs.ShortLemmas.{after_results, applied_text, split_form, space, comma, equals, value_lacks, type_lacks}
use Rattle.meta_asm.proofs.ShortLemmas.{front_lacks, short_lacks, control_lacks, same_line_parts}
use Rattle.meta_asm.proofs.Determined.{same_results, one_number_at, any_there, control_constraint_is, no_second, one_control_number}

-- ---- names

letter_plain : (c : ℕ) → IsLetter c → 65 ≤ c
letter_plain c (inl (low, high)) = low
letter_plain c (inr (low, high)) = omega (arith, low)

plain_byte : (c : ℕ) → IsNameByte c → (c ≢ 32) × (c ≢ 46) × (c ≢ 61)
plain_byte c (inl l) = let low = letter_plain c l in (omega (arith, low), omega (arith, low), omega (arith, low))
plain_byte c (inr (inl (low, high))) = (omega (arith, low), omega (arith, low), omega (arith, low, high))
plain_byte c (inr (inr e)) = (omega (arith, e), omega (arith, e), omega (arith, e))

pub all_name_bytes : (name : List ℕ) → IsName name → All IsNameByte name
all_name_bytes [] h = absurd h
all_name_bytes (c ∷ cs) (letter, more) = All-cons IsNameByte c cs (inl letter) more

-- a name has no mark of a line
pub is_plain_name : (name : List ℕ) → IsName name → IsPlain name
is_plain_name name h =
    let bytes = all_name_bytes name h in
    record {
      space = All-weaker IsNameByte (λ b. b ≢ 32) (λ b is. (plain_byte b is).0) name bytes;
      point = All-weaker IsNameByte (λ b. b ≢ 46) (λ b is. (plain_byte b is).1) name bytes;
      equals = All-weaker IsNameByte (λ b. b ≢ 61) (λ b is. (plain_byte b is).2) name bytes;
    }

pub name_plain : (tables : TableContents) (op : ℕ) (name : List ℕ) → IsWellFormedOpcodes tables → at_opcode tables.names op ≡ Some name
    → IsPlain name
name_plain tables zero name well e = absurd (cc)
name_plain tables (suc k) name well e = is_plain_name name (at_place IsName tables.names k name well.parts.names e)

-- ---- opcodes

-- a name has one opcode, and its lines one manner
pub same_opcode : (tables : TableContents) (a b : List ℕ) (op other : ℕ) → a ≡ b → IsFirst (IsOpcodeNamed tables.names a) op
    → IsFirst (IsOpcodeNamed tables.names b) other → op ≡ other
same_opcode tables a b op other e h g =
    one_first (IsOpcodeNamed tables.names b) op other (subst (λ n. IsFirst (IsOpcodeNamed tables.names n) op) e h) g

same_entry : (tables : TableContents) (op other : ℕ) (x y : OpcodeNumbers) → op ≡ other → at_opcode tables.entries op ≡ Some x
    → at_opcode tables.entries other ≡ Some y → x ≡ y
same_entry tables op other x y e h g = same_Some x y (sym h ∙ ap (at_opcode tables.entries) e ∙ g)

pub one_manner : (tables : TableContents) (a b : List ℕ) (m n : Manner) → a ≡ b → IsMannerIn tables a m → IsMannerIn tables b n → m ≡ n
one_manner tables a b m n e h g =
    let op = same_opcode tables a b h.opcode g.opcode e h.named g.named in
    h.is ∙ ap (manner_of tables) (same_entry tables h.opcode g.opcode h.entry g.entry op h.is_entry g.is_entry) ∙ sym g.is

-- ---- types by their numbers

same_option : (t u : Option TypeParts) → IfSome t IsType → IfSome u IsType → option_map number_of t ≡ option_map number_of u → t ≡ u
same_option None None h k e = refl
same_option None (Some u) h k e = absurd (cc)
same_option (Some t) None h k e = absurd (cc)
same_option (Some t) (Some u) h k e = let numbers : number_of t ≡ number_of u = cc in ap (λ x. Some x) (one_number t u h k numbers)

none_back : (t : Option TypeParts) → option_map number_of t ≡ None → t ≡ None
none_back None e = refl
none_back (Some t) e = absurd (cc)

pub typed_at : (rs : List TypedValue) (k : ℕ) (r : TypedValue) → All IsTyped rs → slice_get rs k ≡ Some r → IsType r.type
typed_at rs k r all at = (at_place IsTyped rs k r all at).is_type

pub result_number_at : (rs : List TypedValue) (k : ℕ) (r : TypedValue) → slice_get rs k ≡ Some r
    → slice_get (map number_of (map (λ (x : TypedValue). x.type) rs)) k ≡ Some (number_of r.type)
result_number_at rs k r at =
    get_map number_of (map (λ (x : TypedValue). x.type) rs) k r.type (get_map (λ (x : TypedValue). x.type) rs k r at)

-- ---- controls

-- controls that are written alike are the same, where they are written
pub written_alike : (c d e g : Option TypeParts) → IfSome c IsType → IfSome d IsType → IsAfter c d → IfSome e IsType → IfSome g IsType
    → IsAfter e g → control_written false c d ≡ control_written false e g → (c ≡ e) × (d ≡ g)
written_alike None d None g hc hd hb he hg gb e = (refl, hb refl ∙ sym (gb refl))
written_alike None d (Some u) None hc hd hb he hg gb e = absurd (cc)
written_alike None d (Some u) (Some w) hc hd hb he hg gb e = absurd (cc)
written_alike (Some t) None None g hc hd hb he hg gb e = absurd (cc)
written_alike (Some t) (Some s) None g hc hd hb he hg gb e = absurd (cc)
written_alike (Some t) None (Some u) None hc hd hb he hg gb e =
    let texts : control_text (Some t) None ≡ control_text (Some u) None = cc in
    same_controls (Some t) None (Some u) None hc hd hb he hg gb texts
written_alike (Some t) None (Some u) (Some w) hc hd hb he hg gb e =
    let texts : control_text (Some t) None ≡ control_text (Some u) (Some w) = cc in
    same_controls (Some t) None (Some u) (Some w) hc hd hb he hg gb texts
written_alike (Some t) (Some s) (Some u) None hc hd hb he hg gb e =
    let texts : control_text (Some t) (Some s) ≡ control_text (Some u) None = cc in
    same_controls (Some t) (Some s) (Some u) None hc hd hb he hg gb texts
written_alike (Some t) (Some s) (Some u) (Some w) hc hd hb he hg gb e =
    let texts : control_text (Some t) (Some s) ≡ control_text (Some u) (Some w) = cc in
    same_controls (Some t) (Some s) (Some u) (Some w) hc hd hb he hg gb texts

module _ (tables : TableContents) (op : ℕ) (entry : OpcodeNumbers) (at : at_opcode tables.entries op ≡ Some entry) (vs : List ℕ) where
  -- where the control is left out, there is no second one, and the control is that of the values
  left_out : (c d e g : Option TypeParts) (rs ps : List ℕ) → IfSome c IsType → IfSome e IsType → (manner_of tables entry).leaves_out ≡ true
      → Allows tables op (option_map number_of c) (option_map number_of d) rs vs
      → Allows tables op (option_map number_of e) (option_map number_of g) ps vs → (c ≡ e) × (d ≡ g)
  left_out c d e g rs ps hc he out x y =
      let parts = and_parts (entry.flags / 8 % 2 == 1) _ out in
      let more = and_parts (entry.second_offset == no_type_set) _ parts.1 in
      let any = any_there is_control (value_constraints tables entry) more.1 in
      let numbers = one_control_number tables op entry at vs any.place any.element any.there (control_constraint_is any.element any.passes)
      (option_map number_of c) (option_map number_of d) (option_map number_of e) (option_map number_of g) rs ps x y in
      let own : x.entry ≡ entry = same_Some x.entry entry (sym x.is_opcode ∙ at) in
      let other : y.entry ≡ entry = same_Some y.entry entry (sym y.is_opcode ∙ at) in
      let first = no_second tables x.entry.second_offset (option_map number_of d)
      (ap (λ (z : OpcodeNumbers). z.second_offset == no_type_set) own ∙ more.0) x.second_fits in
      let second = no_second tables y.entry.second_offset (option_map number_of g)
      (ap (λ (z : OpcodeNumbers). z.second_offset == no_type_set) other ∙ more.0) y.second_fits in
      (same_option c e hc he numbers, none_back d first ∙ sym (none_back g second))

  -- so controls that are written alike are the same
  pub same_written_control : (leaves_out : Bool) (c d e g : Option TypeParts) (rs ps : List ℕ)
      → leaves_out ≡ (manner_of tables entry).leaves_out → IfSome c IsType → IfSome d IsType → IsAfter c d → IfSome e IsType
      → IfSome g IsType → IsAfter e g
      → control_written leaves_out c d ≡ control_written leaves_out e g
      → Allows tables op (option_map number_of c) (option_map number_of d) rs vs
      → Allows tables op (option_map number_of e) (option_map number_of g) ps vs → (c ≡ e) × (d ≡ g)
  same_written_control true c d e g rs ps is hc hd hb he hg gb w x y = left_out c d e g rs ps hc he (sym is) x y
  same_written_control false c d e g rs ps is hc hd hb he hg gb w x y = written_alike c d e g hc hd hb he hg gb w

-- ---- a parameter's line is no application's

param_lacks : (r : TypedValue) → IsTyped r → Lacks 61 (parameter_text r)
param_lacks r h =
    All-append (λ b. b ≢ 61) (codes "param ") (value_text r.value ++ 32 ∷ name_of r.type)
    (All-cons (λ b. b ≢ 61) 112 (97 ∷ 114 ∷ 97 ∷ 109 ∷ 32 ∷ []) (omega arith)
    (All-cons (λ b. b ≢ 61) 97 (114 ∷ 97 ∷ 109 ∷ 32 ∷ []) (omega arith)
    (All-cons (λ b. b ≢ 61) 114 (97 ∷ 109 ∷ 32 ∷ []) (omega arith)
    (All-cons (λ b. b ≢ 61) 97 (109 ∷ 32 ∷ []) (omega arith)
    (All-cons (λ b. b ≢ 61) 109 (32 ∷ []) (omega arith) (All-cons (λ b. b ≢ 61) 32 [] (omega arith) (All-nil (λ b. b ≢ 61))))))))
    (All-append (λ b. b ≢ 61) (value_text r.value) (32 ∷ name_of r.type) (value_lacks 61 r.value equals h.value)
    (All-cons (λ b. b ≢ 61) 32 (name_of r.type) (omega arith) (type_lacks 61 r.type equals h.is_type)))

word_lacks : Lacks 32 (codes "param")
word_lacks =
    All-cons (λ b. b ≢ 32) 112 (97 ∷ 114 ∷ 97 ∷ 109 ∷ []) (omega arith)
    (All-cons (λ b. b ≢ 32) 97 (114 ∷ 97 ∷ 109 ∷ []) (omega arith)
    (All-cons (λ b. b ≢ 32) 114 (97 ∷ 109 ∷ []) (omega arith)
    (All-cons (λ b. b ≢ 32) 97 (109 ∷ []) (omega arith) (All-cons (λ b. b ≢ 32) 109 [] (omega arith) (All-nil (λ b. b ≢ 32))))))

-- what comes after `param` isn't a list of values
no_values : (r : TypedValue) (vs : List ℕ) → IsTyped r → All IsValue vs
    → Some (value_text r.value ++ 32 ∷ name_of r.type) ≡ values_written (map value_text vs) → ⊥
no_values r [] h k e = absurd (cc)
no_values r (u ∷ []) h k e =
    let texts : value_text r.value ++ 32 ∷ name_of r.type ≡ value_text u = cc in
    let both = one_split 32 (value_text r.value) (value_text u) (Some (name_of r.type)) None (value_lacks 32 r.value space h.value)
    (value_lacks 32 u space (All-head IsValue u [] k)) (texts ∙ sym (append-nil (value_text u))) in
    let none : Some (name_of r.type) ≡ None = both.1 in
    absurd (cc)
no_values r (u ∷ w ∷ ws) h k e =
    let rest : List ℕ = join_with_byte 44 (map (λ (t : List ℕ). 32 ∷ t) (map value_text (w ∷ ws))) in
    let texts : value_text r.value ++ 32 ∷ name_of r.type ≡ value_text u ++ 44 ∷ rest = cc in
    let lacks : Lacks 44 (value_text r.value ++ 32 ∷ name_of r.type) =
    All-append (λ b. b ≢ 44) (value_text r.value) (32 ∷ name_of r.type) (value_lacks 44 r.value comma h.value)
    (All-cons (λ b. b ≢ 44) 32 (name_of r.type) (omega arith) (type_lacks 44 r.type comma h.is_type)) in
    let both = one_split 44 (value_text r.value ++ 32 ∷ name_of r.type) (value_text u) None (Some rest) lacks
    (value_lacks 44 u comma (All-head IsValue u (w ∷ ws) k)) (append-nil (value_text r.value ++ 32 ∷ name_of r.type) ∙ texts) in
    let none : None ≡ Some rest = both.1 in
    absurd (cc)

apart_by : (r : TypedValue) (ts : List (List ℕ)) (name : List ℕ) (control : Option (List ℕ)) (vs : List ℕ) → IsTyped r → All (Lacks 61) ts
    → Lacks 32 (name ++ then_part 46 control) → All IsValue vs
    → parameter_text r ≡ after_results ts (applied_text name control (values_written (map value_text vs))) → ⊥
apart_by r [] name control vs h lt ln lv e =
    let both = one_split 32 (codes "param") (name ++ then_part 46 control) (Some (value_text r.value ++ 32 ∷ name_of r.type))
    (values_written (map value_text vs)) word_lacks ln e in
    no_values r vs h lv both.1
apart_by r (t ∷ ts) name control vs h lt ln lv e =
    let rest : List ℕ = 32 ∷ applied_text name control (values_written (map value_text vs)) in
    let both = one_split 61 (parameter_text r) (joined (t ∷ ts) ++ 32 ∷ []) None (Some rest) (param_lacks r h) (front_lacks (t ∷ ts) lt)
    (append-nil (parameter_text r) ∙ e) in
    let none : None ≡ Some rest = both.1 in
    absurd (cc)

pub apart : (r : TypedValue) (m : Manner) (a : Application) → IsTyped r → IsPlain a.name → CanApply a
    → parameter_text r ≡ short_application m a → ⊥
apart r m a h plain can e =
    apart_by r (map short_result_text (short_results m.opened a.results)) a.name
    (control_written m.leaves_out a.control a.second) a.values h
    (short_lacks 61 m.opened a.results equals (omega arith) can.results)
    (All-append (λ b. b ≢ 32) a.name (then_part 46 (control_written m.leaves_out a.control a.second)) plain.space
    (control_lacks 32 m.leaves_out a.control a.second space (omega arith) (omega arith) can.control can.second))
    can.values (e ∙ split_form m a)

pub one_parameter : (r q : TypedValue) → IsTyped r → IsTyped q → parameter_text r ≡ parameter_text q → r ≡ q
one_parameter r q h k e =
    let texts : value_text r.value ++ then_part 32 (Some (name_of r.type))
    ≡ value_text q.value ++ then_part 32 (Some (name_of q.type)) = cc in
    let both = one_split 32 (value_text r.value) (value_text q.value) (Some (name_of r.type)) (Some (name_of q.type))
    (value_lacks 32 r.value space h.value) (value_lacks 32 q.value space k.value) texts in
    let value = one_written_value r.value q.value h.value k.value both.0 in
    let type = one_name r.type q.type h.is_type k.is_type (same_Some (name_of r.type) (name_of q.type) both.1) in
    λ i. record { value = value i; type = type i }

-- ---- what is stated

-- where names are plain, and an application is told by its short form, so is what a line states, and with it the line
module _ (R : Replies) (M : Manners) (env : Environment) (plain : (a : Application) → IsAccepted R env (OfApplication a) → IsPlain a.name)
    (one_application : (m n : Manner) (a b : Application) → CanApply a → CanApply b → IsAccepted R env (OfApplication a)
    → IsAccepted R env (OfApplication b) → M a.name m → M b.name n → short_application m a ≡ short_application n b → a ≡ b) where
  one_stated : (m n : Manner) (s t : Statement) → CanBeStated s → CanBeStated t → IsFaultless R env s → IsFaultless R env t
      → HasManner M s m → HasManner M t n → short_text m s ≡ short_text n t → s ≡ t
  one_stated m n (OfParameter r) (OfParameter q) cs ct fs ft hm hn e = ap (λ x. OfParameter x) (one_parameter r q cs ct e)
  one_stated m n (OfParameter r) (OfApplication b) cs ct fs ft hm hn e = absurd (apart r n b cs (plain b ft.accepted) ct e)
  one_stated m n (OfApplication a) (OfParameter q) cs ct fs ft hm hn e = absurd (apart q m a ct (plain a fs.accepted) cs (sym e))
  one_stated m n (OfApplication a) (OfApplication b) cs ct fs ft hm hn e =
      ap (λ x. OfApplication x) (one_application m n a b cs ct fs.accepted ft.accepted hm hn e)

  pub one_shortened : (text a b : List ℕ) → IsShort R M env a text → IsShort R M env b text → a ≡ b
  one_shortened text a b h k =
      let same = one_stated h.manner k.manner h.statement k.statement h.right.0.can k.right.0.can h.right.1 k.right.1 h.has_manner
      k.has_manner (sym h.is ∙ k.is) in
      h.right.0.words.parted ∙ ap (λ s. join_with_byte 32 (words_of s)) same ∙ sym k.right.0.words.parted

-- ---- by tables

module _ (tables : TableContents) (well : IsWellFormedOpcodes tables) (env : Environment) where
  named_plain : (a : Application) → IsAccepted (AllowedReply tables) env (OfApplication a) → IsPlain a.name
  named_plain a (types, have, h) = (let (op, named, allows) = h in name_plain tables op a.name well named.holds)

  one_application : (m n : Manner) (a b : Application) → CanApply a → CanApply b → IsAccepted (AllowedReply tables) env (OfApplication a)
      → IsAccepted (AllowedReply tables) env (OfApplication b)
      → IsMannerIn tables a.name m → IsMannerIn tables b.name n → short_application m a ≡ short_application n b → a ≡ b
  one_application m n a b ca cb fa fb hm hn e =
      let parts = same_line_parts m n a b (named_plain a fa) (named_plain b fb) ca cb e in
      let (types, have, replied) = fa in
      let (op, named, allows) = replied in
      let (others, has, answered) = fb in
      let (other, also, allowed) = answered in
      let manner : m ≡ n = one_manner tables a.name b.name m n parts.names hm hn in
      let same : others ≡ types =
      same_found_types env a.values others types (subst (λ values. HaveTypes env values others) (sym parts.values) has) have in
      let same_op : other ≡ op = same_opcode tables b.name a.name other op (sym parts.names) also named in
      let own_op : op ≡ hm.opcode = same_opcode tables a.name a.name op hm.opcode refl named hm.named in
      let at : at_opcode tables.entries op ≡ Some hm.entry = ap (at_opcode tables.entries) own_op ∙ hm.is_entry in
      let vs : List ℕ = map number_of types in
      let rs : List ℕ = map number_of (map (λ (r : TypedValue). r.type) a.results) in
      let ps : List ℕ = map number_of (map (λ (r : TypedValue). r.type) b.results) in
      let accepts : Allows tables op (option_map number_of b.control) (option_map number_of b.second) ps vs =
      subst (λ o. Allows tables o (option_map number_of b.control) (option_map number_of b.second) ps vs) same_op
      (subst (λ ts. Allows tables other (option_map number_of b.control) (option_map number_of b.second) ps (map number_of ts)) same
      allowed) in
      let written : control_written m.leaves_out a.control a.second ≡ control_written m.leaves_out b.control b.second = parts.controls
      ∙ ap (λ (x : Manner). control_written x.leaves_out b.control b.second) (sym manner) in
      let controls = same_written_control tables op hm.entry at vs m.leaves_out a.control a.second b.control b.second rs ps
      (ap (λ (x : Manner). x.leaves_out) hm.is)
      ca.control ca.second ca.after cb.control cb.second cb.after written allows accepts in
      let under : Allows tables op (option_map number_of a.control) (option_map number_of a.second) ps vs =
      subst (λ d. Allows tables op (option_map number_of a.control) (option_map number_of d) ps vs) (sym controls.1)
      (subst (λ c. Allows tables op (option_map number_of c) (option_map number_of b.second) ps vs) (sym controls.0) accepts) in
      let shorts : short_results m.opened a.results ≡ short_results m.opened b.results = parts.results
      ∙ ap (λ (x : Manner). short_results x.opened b.results) (sym manner) in
      let results = same_results m.opened a.results b.results shorts (λ k r q r_at q_at closed.
      one_number r.type q.type (typed_at a.results k r ca.results r_at) (typed_at b.results k q cb.results q_at)
      (one_number_at tables op hm.entry at vs (option_map number_of a.control) (option_map number_of a.second) rs ps allows under k
      (number_of r.type) (number_of q.type) (result_number_at a.results k r r_at) (result_number_at b.results k q q_at)
      (ap (λ (x : Manner). get_or x.opened k false) (sym hm.is) ∙ closed))) in
      λ i. record { name = parts.names i; control = controls.0 i; second = controls.1 i; results = results i; values = parts.values i }

  -- for one environment a text reads as one line at most
  pub one_line : (text a b : List ℕ) → IsShortIn tables env a text → IsShortIn tables env b text → a ≡ b
  one_line = one_shortened (AllowedReply tables) (IsMannerIn tables) env named_plain one_application

-- ---- a line has one short form at most, where the lines of an instruction have one manner

module _ (R : Replies) (M : Manners) (one : (name : List ℕ) (m n : Manner) → M name m → M name n → m ≡ n) where
  same_written : (s : Statement) (m n : Manner) → HasManner M s m → HasManner M s n → short_text m s ≡ short_text n s
  same_written (OfParameter r) m n h k = refl
  same_written (OfApplication a) m n h k = ap (λ x. short_application x a) (one a.name m n h k)

  pub one_form_of_line : (env : Environment) (line a b : List ℕ) → IsShort R M env line a → IsShort R M env line b → a ≡ b
  one_form_of_line env line a b h k =
      let same : h.statement ≡ k.statement = one_statement line h.statement k.statement h.right.0 k.right.0 in
      h.is ∙ ap (short_text h.manner) same
      ∙ same_written k.statement h.manner k.manner (subst (λ s. HasManner M s h.manner) same h.has_manner) k.has_manner ∙ sym k.is

pub one_form_in : (tables : TableContents) (env : Environment) (line a b : List ℕ) → IsShortIn tables env line a
    → IsShortIn tables env line b → a ≡ b
one_form_in tables = one_form_of_line (AllowedReply tables) (IsMannerIn tables) (λ name m n h k. one_manner tables name name m n refl h k)
