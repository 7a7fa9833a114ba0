-- A line has one answer that explains at most.
use Rattle.std.proofs.Common.{◌≡◌, ℕ, ◌+◌, inl, inr, List, ◌∷◌, ◌++◌, map, length, Option, Some, None, codes, refl, sym, ap, ap₂, ◌∙◌}
use Rattle.std.proofs.Common.{subst, arith}
use Rattle.std.specs.Global.{Vec}
use Rattle.std.proofs.lemmas.Option.{same_Some}
use Rattle.meta_lists.proofs.First.{one_first}
use Rattle.meta_lists.proofs.Places.{get_there, get_beside, same_places}
use Rattle.meta_types.specs.TypeParts.{number_of}
use Rattle.meta_inst.specs.Built.{BuiltInstruction}
use Rattle.meta_inst.specs.Tables.{TableContents, OpcodeNumbers, result_count, value_count}
use Rattle.meta_gen.specs.Contents.{IsOpcode, IsOpcodeNamed}
use Rattle.meta_gen.specs.Question.{Question}
use Rattle.meta_gen.specs.Reply.{reply_text}
use Rattle.meta_gen.specs.WholeTables.{WholeTables}
use Rattle.meta_file_syntax.specs.declared.insts.Property.{Property}
use Rattle.meta_explain.specs.Found.{control_place, AreBefore, IsBefore, Finds}
use Rattle.meta_explain.specs.Listed.{IsLess}
use Rattle.meta_explain.specs.Operands.{MayBe}
use Rattle.meta_explain.specs.Options.{AreOptions, AcceptsFirst, AcceptsSecond}
use Rattle.meta_explain.specs.Parts.{Accepts, FailsFirst}
use Rattle.meta_explain.specs.Texts.{set_text, alternatives_text, place_text, held_text, wants_text, demand_text}
use Rattle.meta_explain.specs.Wanted.{IsExplained}
use Rattle.meta_explain.specs.declared.control_types.ControlTypes.{ControlTypes}
use Rattle.meta_explain.specs.declared.explained.Explained.{Explained}
use Rattle.meta_explain.specs.declared.explained.Explained.TheVariants.{Accept, Refuse}
use Rattle.meta_explain.specs.declared.explained.Wanted.{Wanted}
use Rattle.meta_explain.specs.declared.found.Found.{Found}
use Rattle.meta_explain.specs.declared.part.Part.{Part}
use Rattle.meta_explain.proofs.Listing.{one_listed, rising_apart}
use Rattle.meta_query_lines.specs.Query.{Asked, OfQuestion, OfInference, OfSetting}
use Rattle.meta_query_lines.specs.Request.{Request, OfTypes, OfFind, OfNames}
use Rattle.meta_query_lines.specs.SettingLine.{list_of_names}
use Rattle.meta_query_lines.specs.Explanation.{part_name, why_text, asked_controls, IsWhy, IsListOf, IsOperandTold}
use Rattle.meta_query_lines.specs.Explanation.{AreOperandsTold, control_set, second_set, AreTypesTold, AreTypesUnder, AreTypesBy, AreTypesOf}
use Rattle.meta_query_lines.specs.Explanation.{found_text, opcode_text, AreFound, AreNamesOf, IsMarked, HasFormat, mark_named, AreOfFormat}
use Rattle.meta_query_lines.specs.Explanation.{AreOfWord, AreNames, IsQueryTold, IsRequestTold, IsExplanation}
use Rattle.meta_query_lines.specs.Explained.{AreExplained}
use Rattle.meta_query_lines.proofs.QueryLemmas.{one_query}
use Rattle.meta_query_lines.proofs.RequestLemmas.{one_request, asks_no_request}
use Rattle.meta_query_lines.proofs.TableReplies.{one_of_tables}
use Rattle.meta_query_lines.proofs.TextLemmas.{one_output_text}

-- ---- orders

controls_apart : (c d : ControlTypes) → AreBefore c d → AreBefore d c → ⊥
controls_apart c d (inl l) (inl m) = omega (arith, l, m)
controls_apart c d (inl l) (inr (e, m)) = let p = ap control_place e in omega (arith, l, p)
controls_apart c d (inr (e, l)) (inl m) = let p = ap control_place e in omega (arith, m, p)
controls_apart c d (inr (e, l)) (inr (f, m)) = omega (arith, l, m)

found_apart : (x y : Found) → IsBefore x y → IsBefore y x → ⊥
found_apart x y (inl l) (inl m) = omega (arith, l, m)
found_apart x y (inl l) (inr (e, m)) = omega (arith, l, e)
found_apart x y (inr (e, l)) (inl m) = omega (arith, m, e)
found_apart x y (inr (e, l)) (inr (f, m)) = controls_apart x.controls y.controls l m

-- ---- types

-- a list of words of which each is one at its place
one_list_of : (P : ℕ → List ℕ → Type 0) → ((k : ℕ) (w v : List ℕ) → P k w → P k v → w ≡ v) → (count : ℕ) (a b : List ℕ)
    → IsListOf P count a → IsListOf P count b → a ≡ b
one_list_of P one count a b h g =
    let as_many = h.as_many ∙ sym g.as_many in
    let words : h.words ≡ g.words = same_places h.words g.words as_many (λ j l.
    let (w, at) = get_there h.words j l in
    let (v, there) = get_beside h.words g.words j w as_many at in
    at ∙ ap Some (one j w v (h.each j w at) (g.each j v there)) ∙ sym there) in
    h.is ∙ ap list_of_names words ∙ sym g.is

module _ (tables : TableContents) where
  one_operand : (op : ℕ) (e : OpcodeNumbers) (c : Option ControlTypes) (k : ℕ) (w v : List ℕ) → IsOperandTold tables op e c k w
      → IsOperandTold tables op e c k v → w ≡ v
  one_operand op e None k w v (x, at, is) (y, there, too) = is ∙ ap (demand_text tables.type_sets) (same_Some x y (sym at ∙ there)) ∙ sym too
  one_operand op e (Some c) k w v (ns, listed, is) (ms, others, too) =
      is ∙ ap alternatives_text (one_listed IsLess rising_apart (MayBe tables op c k) ns ms listed others) ∙ sym too

  one_operands : (op : ℕ) (c : Option ControlTypes) (a b : List ℕ) → AreOperandsTold tables op c a → AreOperandsTold tables op c b → a ≡ b
  one_operands op c a b h g =
      let entry : h.entry ≡ g.entry = same_Some h.entry g.entry (sym h.is_opcode ∙ g.is_opcode) in
      let results = one_list_of (λ k w. IsOperandTold tables op g.entry c k w) (one_operand op g.entry c) (result_count g.entry.flags)
      h.results g.results (subst (λ (e : OpcodeNumbers). IsListOf (λ k w. IsOperandTold tables op e c k w) (result_count e.flags) h.results)
      entry h.are_results) g.are_results in
      let values = one_list_of (λ k w. IsOperandTold tables op g.entry c (result_count g.entry.flags + k) w)
      (λ k w v p q. one_operand op g.entry c (result_count g.entry.flags + k) w v p q) (value_count g.entry.flags) h.values g.values
      (subst (λ (e : OpcodeNumbers). IsListOf (λ k w. IsOperandTold tables op e c (result_count e.flags + k) w) (value_count e.flags) h.values)
      entry h.are_values) g.are_values in
      h.is ∙ ap₂ (λ (r v : List ℕ). codes "results " ++ (r ++ (codes " values " ++ v))) results values ∙ sym g.is

  one_control_set : (P : Option ℕ → Type 0) (x y : Option (Vec ℕ)) → AreOptions P x → AreOptions P y → control_set x ≡ control_set y
  one_control_set P None None h g = refl
  one_control_set P None (Some ns) h g = absurd (g.0 ((h None).1 refl))
  one_control_set P (Some ns) None h g = absurd (h.0 ((g None).1 refl))
  one_control_set P (Some ns) (Some ms) h g =
      ap set_text (one_listed IsLess rising_apart (λ n. P (Some n)) ns.items ms.items h.1 g.1)

  one_second_set : (P : Option ℕ → Type 0) (x y : Option (Vec ℕ)) → AreOptions P x → AreOptions P y → second_set x ≡ second_set y
  one_second_set P None None h g = refl
  one_second_set P None (Some ns) h g = absurd (g.0 ((h None).1 refl))
  one_second_set P (Some ns) None h g = absurd (h.0 ((g None).1 refl))
  one_second_set P (Some ns) (Some ms) h g =
      ap (λ xs. codes " second " ++ set_text xs) (one_listed IsLess rising_apart (λ n. P (Some n)) ns.items ms.items h.1 g.1)

  one_types_told : (op : ℕ) (a b : List ℕ) → AreTypesTold tables op a → AreTypesTold tables op b → a ≡ b
  one_types_told op a b (inl h) (inl g) =
      let x = h.options in
      let y = g.options in
      let first = one_control_set (AcceptsFirst tables op) x.first y.first h.are_options.first g.are_options.first in
      let second = one_second_set (AcceptsSecond tables op) x.second y.second h.are_options.second g.are_options.second in
      let operands = one_operands op None h.operands g.operands h.are_operands g.are_operands in
      h.is ∙ (λ i. codes "control " ++ (first i ++ (second i ++ 32 ∷ operands i))) ∙ sym g.is
  one_types_told op a b (inl h) (inr (never, e)) = absurd (never h.are_options.some.0 h.are_options.some.1)
  one_types_told op a b (inr (never, e)) (inl g) = absurd (never g.are_options.some.0 g.are_options.some.1)
  one_types_told op a b (inr (never, e)) (inr (not, f)) = e ∙ sym f

  one_types_under : (op : ℕ) (c : ControlTypes) (a b : List ℕ) → AreTypesUnder tables op c a → AreTypesUnder tables op c b → a ≡ b
  one_types_under op c a b (inl (some, h)) (inl (other, g)) = one_operands op (Some c) a b h g
  one_types_under op c a b (inl (some, h)) (inr (never, e)) = absurd (never some)
  one_types_under op c a b (inr (never, e)) (inl (some, g)) = absurd (never some)
  one_types_under op c a b (inr (never, e)) (inr (not, f)) = e ∙ sym f

  one_types_by : (c : Option ControlTypes) (op : ℕ) (a b : List ℕ) → AreTypesBy tables c op a → AreTypesBy tables c op b → a ≡ b
  one_types_by None op a b h g = one_types_told op a b h g
  one_types_by (Some c) op a b h g = one_types_under op c a b h g

  one_types_of : (name : List ℕ) (c : Option ControlTypes) (a b : List ℕ) → AreTypesOf tables name c a → AreTypesOf tables name c b → a ≡ b
  one_types_of name c a b (inl (op, named, h)) (inl (other, too, g)) =
      one_types_by c other a b (subst (λ n. AreTypesBy tables c n a) (one_first (IsOpcodeNamed tables.names name) op other named too) h) g
  one_types_of name c a b (inl (op, named, h)) (inr (never, e)) = absurd (never op named.holds)
  one_types_of name c a b (inr (never, e)) (inl (op, named, g)) = absurd (never op named.holds)
  one_types_of name c a b (inr (never, e)) (inr (not, f)) = e ∙ sym f

  -- ---- names

  one_found : (rs vs : List (Option ℕ)) (a b : List ℕ) → AreFound tables rs vs a → AreFound tables rs vs b → a ≡ b
  one_found rs vs a b h g =
      let same = one_listed IsBefore found_apart (Finds tables rs vs) h.found g.found h.listed g.listed in
      h.is ∙ ap (λ xs. list_of_names (map (found_text tables) xs)) same ∙ sym g.is

  one_names_of : (P : ℕ → Type 0) (a b : List ℕ) → AreNamesOf tables P a → AreNamesOf tables P b → a ≡ b
  one_names_of P a b h g =
      let same = one_listed IsLess rising_apart P h.opcodes g.opcodes h.listed g.listed in
      h.is ∙ ap (λ ops. list_of_names (map (opcode_text tables) ops)) same ∙ sym g.is

  one_of_format : (name a b : List ℕ) → AreOfFormat tables name a → AreOfFormat tables name b → a ≡ b
  one_of_format name a b (inl (some, h)) (inl (other, g)) = one_names_of (HasFormat tables name) a b h g
  one_of_format name a b (inl (some, h)) (inr (never, e)) = absurd (never some.0 some.1)
  one_of_format name a b (inr (never, e)) (inl (some, g)) = absurd (never some.0 some.1)
  one_of_format name a b (inr (never, e)) (inr (not, f)) = e ∙ sym f

  module _ (told : Option (List BuiltInstruction)) where
    one_of_word : (name : List ℕ) (p : Option Property) (a b : List ℕ) → AreOfWord tables told name p a → AreOfWord tables told name p b
        → a ≡ b
    one_of_word name None a b h g = one_of_format name a b h g
    one_of_word name (Some p) a b h g = one_names_of (λ op. IsOpcode tables op × IsMarked told p op) a b h g

    one_names : (name : Option (List ℕ)) (a b : List ℕ) → AreNames tables told name a → AreNames tables told name b → a ≡ b
    one_names None a b h g = one_names_of (IsOpcode tables) a b h g
    one_names (Some name) a b h g = one_of_word name (mark_named told name) a b h g

    one_requested : (r : Request) (a b : List ℕ) → IsRequestTold tables told r a → IsRequestTold tables told r b → a ≡ b
    one_requested (OfTypes name c) a b h g = one_types_of name c a b h g
    one_requested (OfFind results values) a b h g = one_found results values a b h g
    one_requested (OfNames name) a b h g = one_names name a b h g

-- ---- why, where what is refused is not accepted, and has one reason

module _ (refuses : (tables : TableContents) (op : ℕ) (c : ControlTypes) (rs vs : List ℕ) (p : Part) → FailsFirst tables op c rs vs p
    → Accepts tables op c rs vs → ⊥)
    (one_reason : (tables : TableContents) (op : ℕ) (c : ControlTypes) (rs vs : List ℕ) (p q : Part) (w u : Wanted)
    → IsExplained tables op c rs vs (Refuse p w) → IsExplained tables op c rs vs (Refuse q u) → (p ≡ q) × (wants_text w ≡ wants_text u)) where
  module _ (tables : TableContents) (told : Option (List BuiltInstruction)) where
    one_why : (op : ℕ) (c : ControlTypes) (rs vs : List ℕ) (x y : Explained) → IsExplained tables op c rs vs x
        → IsExplained tables op c rs vs y → why_text told op c rs vs x ≡ why_text told op c rs vs y
    one_why op c rs vs Accept Accept h g = refl
    one_why op c rs vs Accept (Refuse q u) h g = absurd (refuses tables op c rs vs q g.0 h)
    one_why op c rs vs (Refuse p w) Accept h g = absurd (refuses tables op c rs vs p h.0 g)
    one_why op c rs vs (Refuse p w) (Refuse q u) h g =
        let (parts, wants) = one_reason tables op c rs vs p q w u h g in
        λ i. codes "refuse " ++ (place_text (parts i) (length rs) ++ (part_name told op (parts i)
        ++ (codes ": " ++ (held_text (parts i) c rs vs ++ (codes ", " ++ wants i)))))

    one_answer_why : (q : Question) (a b : List ℕ) → IsWhy tables told q a → IsWhy tables told q b → a ≡ b
    one_answer_why q a b (inl h) (inl g) =
        let rs = map number_of q.results in
        let vs = map number_of q.values in
        let op : h.opcode ≡ g.opcode = one_first (IsOpcodeNamed tables.names q.name) h.opcode g.opcode h.named g.named in
        let moved : IsExplained tables g.opcode (asked_controls q) rs vs h.why =
        subst (λ n. IsExplained tables n (asked_controls q) rs vs h.why) op h.explained in
        h.is ∙ ap (λ n. why_text told n (asked_controls q) rs vs h.why) op
        ∙ one_why g.opcode (asked_controls q) rs vs h.why g.why moved g.explained ∙ sym g.is
    one_answer_why q a b (inl h) (inr (never, e)) = absurd (never h.opcode h.named.holds)
    one_answer_why q a b (inr (never, e)) (inl g) = absurd (never g.opcode g.named.holds)
    one_answer_why q a b (inr (never, e)) (inr (not, f)) = e ∙ sym f

  module _ (tables : WholeTables) (told : Option (List BuiltInstruction)) where
    one_asked : (q : Asked) (a b : List ℕ) → IsQueryTold tables told q a → IsQueryTold tables told q b → a ≡ b
    one_asked (OfQuestion q) a b h g = one_answer_why tables.opcodes told q a b h g
    one_asked (OfInference q) a b (r, h, is) (s, g, too) = is ∙ ap reply_text (one_of_tables tables (OfInference q) r s h g) ∙ sym too
    one_asked (OfSetting name) a b (r, h, is) (s, g, too) = is ∙ ap reply_text (one_of_tables tables (OfSetting name) r s h g) ∙ sym too

    one_explanation : (line a b : List ℕ) → IsExplanation tables told line a → IsExplanation tables told line b → a ≡ b
    one_explanation line a b (inl (q, asks, h)) (inl (p, also, g)) =
        one_asked p a b (subst (λ q. IsQueryTold tables told q a) (one_query line q p asks also) h) g
    one_explanation line a b (inl (q, asks, h)) (inr (inl (r, requests, g))) = absurd (asks_no_request line q r asks requests)
    one_explanation line a b (inl (q, asks, h)) (inr (inr (none, no_request, e))) = absurd (none q asks)
    one_explanation line a b (inr (inl (r, requests, h))) (inl (q, asks, g)) = absurd (asks_no_request line q r asks requests)
    one_explanation line a b (inr (inl (r, requests, h))) (inr (inl (p, also, g))) =
        one_requested tables.opcodes told p a b
        (subst (λ r. IsRequestTold tables.opcodes told r a) (one_request line r p requests also) h) g
    one_explanation line a b (inr (inl (r, requests, h))) (inr (inr (none, no_request, e))) = absurd (no_request r requests)
    one_explanation line a b (inr (inr (none, no_request, e))) (inl (q, asks, g)) = absurd (none q asks)
    one_explanation line a b (inr (inr (none, no_request, e))) (inr (inl (r, requests, g))) = absurd (no_request r requests)
    one_explanation line a b (inr (inr (none, no_request, e))) (inr (inr (never, not, f))) = e ∙ sym f

    -- Tables explain lines with at most one text.
    pub one_explained : (lines : List (List ℕ)) (a b : List ℕ) → AreExplained tables told lines a → AreExplained tables told lines b → a ≡ b
    one_explained lines a b h g = one_output_text (IsExplanation tables told) one_explanation lines a b h g
