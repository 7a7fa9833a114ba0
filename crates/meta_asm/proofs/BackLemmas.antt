-- A text that was written in the short form reads as the list from which it was written.
use Rattle.std.proofs.Common.{◌≡◌, ◌≢◌, ◌↔◌, inl, inr, ℕ, zero, suc, ◌-◌, ◌<◌, ◌≤◌, ◌==◌, Bool, true, false, List, [], ◌∷◌, ◌++◌, map}
use Rattle.std.proofs.Common.{length, get_or, slice_index, All, Some, codes, refl, sym, ap, ap₂, ◌∙◌, subst, append_assoc, arith, rules}
use Rattle.std.proofs.Common.{tests}
use Rattle.std.specs.Str.Lines.{strip_carriage_return}
use Rattle.std.proofs.lemmas.Bool.{cond-false}
use Rattle.std.proofs.lemmas.List.Elements.{All-nil, All-cons, All-head, All-tail, All-append, All-weaker}
use Rattle.meta_types.specs.Name.{IsNameByte, IsName}
use Rattle.meta_inst.specs.InstructionSet.{InstructionSet}
use Rattle.meta_inst.specs.Faults.{IsValid}
use Rattle.meta_inst.specs.Tables.{TableContents, at_opcode}
use Rattle.meta_gen.specs.WellFormedOpcodes.{IsWellFormedOpcodes}
use Rattle.meta_lists.proofs.Everywhere.{at_place}
use Rattle.meta_lines.specs.Lines.{lines_of, lines_of_pieces}
use Rattle.meta_lines.specs.Words.{pieces_of}
use Rattle.meta_lines.proofs.PieceLemmas.{slice_split_cons, first_piece}
use Rattle.meta_gen.specs.Reply.{AllowedReply, AcceptedReply}
use Rattle.meta_verify.specs.Statement.{TypedValue, Application, Statement, OfParameter, OfApplication, IsTyped, CanApply, value_text}
use Rattle.meta_verify.specs.Statement.{defined_by}
use Rattle.meta_verify.specs.Environment.{Environment, nothing_defined, with_values}
use Rattle.meta_verify.specs.Wrong.{Replies, IsAccepted, IsRight}
use Rattle.meta_verify.proofs.StatementLemmas.{one_statement}
use Rattle.meta_types.specs.TypeParts.{name_of}
use Rattle.meta_asm.specs.Short.{Manner, short_results, short_result_text, joined, then_part, control_written, values_written, results_part}
use Rattle.meta_asm.specs.Short.{parameter_text, short_application, short_text}
use Rattle.meta_asm.specs.Manners.{IsMannerIn, IsMannerDeclared}
use Rattle.meta_asm.specs.Reading.{Manners, IsShort}
use Rattle.meta_asm.proofs.SplitLemmas.{Lacks, lacks_joined}
use Rattle.meta_asm.proofs.ShortLemmas.{IsMark, value_lacks, type_lacks, short_lacks, control_lacks, values_lack}
use Rattle.meta_asm.proofs.OneLine.{all_name_bytes, one_line}
use Rattle.meta_asm.proofs.DeclaredLine.{asked_name, one_line_declared}
use Rattle.meta_asm.specs.Listing.{text_of_lines, filled, AreShort, IsShortened, IsSpelled}
use Rattle.meta_asm.proofs.ListingLemmas.{has_text}
use Rattle.meta_asm.proofs.OneOutput.{one_reading, reads_all}

-- ---- the lines of what was written

-- a line without CR stays as it is
stripped : (line : List ℕ) → Lacks 13 line → strip_carriage_return line ≡ line
stripped [] h = refl
stripped (c ∷ cs) h =
    let other : get_or (c ∷ cs) (length (c ∷ cs) - 1) 0 ≢ 13 = h (length (c ∷ cs) - 1) 0 (omega arith) in
    let off : (slice_index (c ∷ cs) (length (c ∷ cs) - 1) == 13) ≡ false = search (rules, tests) in
    cond-false (slice_index (c ∷ cs) (length (c ∷ cs) - 1) == 13) _ _ off

-- LF and CR
pub record IsPlainLine (line : List ℕ) : Type 0 where
  pub feed : Lacks 10 line
  pub return : Lacks 13 line

pub lines_back : (lines : List (List ℕ)) → All IsPlainLine lines → lines_of (text_of_lines lines) ≡ lines
lines_back [] h = refl
lines_back (l ∷ ls) h =
    let plain = All-head IsPlainLine l ls h in
    let more = slice_split_cons (λ b. b == 10) (text_of_lines ls) in
    let pieces : pieces_of 10 (text_of_lines (l ∷ ls)) ≡ l ∷ more.first ∷ more.others =
    ap (pieces_of 10) (append_assoc l (10 ∷ []) (text_of_lines ls)) ∙ first_piece 10 l (text_of_lines ls) plain.feed
    ∙ ap (λ ps. l ∷ ps) more.is in
    ap lines_of_pieces pieces ∙ ap₂ ◌∷◌ (stripped l plain.return) (ap lines_of_pieces (sym more.is)
    ∙ lines_back ls (All-tail IsPlainLine l ls h))

-- if no line is empty, none is skipped
pub all_filled : (lines : List (List ℕ)) → All (λ l. l ≢ []) lines → filled lines ≡ lines
all_filled [] h = refl
all_filled ([] ∷ ls) h = absurd (All-head (λ l. l ≢ []) [] ls h refl)
all_filled ((c ∷ cs) ∷ ls) h = ap (λ r. (c ∷ cs) ∷ r) (all_filled ls (All-tail (λ l. l ≢ []) (c ∷ cs) ls h))

-- ---- a short form has neither

-- a byte below the space stands in none of its parts
low_mark : (byte : ℕ) → byte < 32 → IsMark byte
low_mark byte h = record {
  digit = λ d. (let l : 48 ≤ byte = d.low in omega (arith, h, l));
  value = λ e. omega (arith, h, e);
  int = λ e. omega (arith, h, e);
  float = λ e. omega (arith, h, e);
  lanes = λ e. omega (arith, h, e);
  dynamic = λ e. omega (arith, h, e);
}

low_name : (b byte : ℕ) → byte < 32 → IsNameByte b → b ≢ byte
low_name b byte h (inl (inl (low, up))) = λ e. omega (arith, h, low, e)
low_name b byte h (inl (inr (low, up))) = λ e. omega (arith, h, low, e)
low_name b byte h (inr (inl (low, up))) = λ e. omega (arith, h, low, e)
low_name b byte h (inr (inr is)) = λ e. omega (arith, h, is, e)

part_lacks : (byte : ℕ) → byte < 32 → (ts : List (List ℕ)) → All (Lacks byte) ts → Lacks byte (results_part ts)
part_lacks byte h [] each = All-nil (λ b. b ≢ byte)
part_lacks byte h (t ∷ ts) each =
    All-append (λ b. b ≢ byte) (joined (t ∷ ts)) (codes " = ")
    (lacks_joined byte (t ∷ ts) (λ e. omega (arith, h, e)) (λ e. omega (arith, h, e)) each)
    (All-cons (λ b. b ≢ byte) 32 (61 ∷ 32 ∷ []) (λ e. omega (arith, h, e))
    (All-cons (λ b. b ≢ byte) 61 (32 ∷ []) (λ e. omega (arith, h, e))
    (All-cons (λ b. b ≢ byte) 32 [] (λ e. omega (arith, h, e)) (All-nil (λ b. b ≢ byte)))))

application_lacks : (byte : ℕ) → byte < 32 → (m : Manner) (a : Application) → CanApply a → All IsNameByte a.name
    → Lacks byte (short_application m a)
application_lacks byte h m a can name =
    All-append (λ b. b ≢ byte) (results_part (map short_result_text (short_results m.opened a.results)))
    (a.name ++ (then_part 46 (control_written m.leaves_out a.control a.second) ++ then_part 32 (values_written (map value_text a.values))))
    (part_lacks byte h (map short_result_text (short_results m.opened a.results))
    (short_lacks byte m.opened a.results (low_mark byte h) (λ e. omega (arith, h, e)) can.results))
    (All-append (λ b. b ≢ byte) a.name (then_part 46 (control_written m.leaves_out a.control a.second)
    ++ then_part 32 (values_written (map value_text a.values)))
    (All-weaker IsNameByte (λ b. b ≢ byte) (λ b is. low_name b byte h is) a.name name)
    (All-append (λ b. b ≢ byte) (then_part 46 (control_written m.leaves_out a.control a.second))
    (then_part 32 (values_written (map value_text a.values)))
    (control_lacks byte m.leaves_out a.control a.second (low_mark byte h) (λ e. omega (arith, h, e))
    (λ e. omega (arith, h, e)) can.control can.second)
    (values_lack byte a.values (low_mark byte h) (λ e. omega (arith, h, e)) (λ e. omega (arith, h, e)) can.values)))

parameter_lacks : (byte : ℕ) → byte < 32 → (r : TypedValue) → IsTyped r → Lacks byte (parameter_text r)
parameter_lacks byte h r can =
    All-append (λ b. b ≢ byte) (codes "param ") (value_text r.value ++ 32 ∷ name_of r.type)
    (All-cons (λ b. b ≢ byte) 112 (97 ∷ 114 ∷ 97 ∷ 109 ∷ 32 ∷ []) (λ e. omega (arith, h, e))
    (All-cons (λ b. b ≢ byte) 97 (114 ∷ 97 ∷ 109 ∷ 32 ∷ []) (λ e. omega (arith, h, e))
    (All-cons (λ b. b ≢ byte) 114 (97 ∷ 109 ∷ 32 ∷ []) (λ e. omega (arith, h, e))
    (All-cons (λ b. b ≢ byte) 97 (109 ∷ 32 ∷ []) (λ e. omega (arith, h, e))
    (All-cons (λ b. b ≢ byte) 109 (32 ∷ []) (λ e. omega (arith, h, e))
    (All-cons (λ b. b ≢ byte) 32 [] (λ e. omega (arith, h, e)) (All-nil (λ b. b ≢ byte))))))))
    (All-append (λ b. b ≢ byte) (value_text r.value) (32 ∷ name_of r.type) (value_lacks byte r.value (low_mark byte h) can.value)
    (All-cons (λ b. b ≢ byte) 32 (name_of r.type) (λ e. omega (arith, h, e)) (type_lacks byte r.type (low_mark byte h) can.is_type)))

-- if the names of what is accepted have name bytes alone, and a text reads as at most one line
module _ (R : Replies) (M : Manners) (bytes : (env : Environment) (a : Application) → IsAccepted R env (OfApplication a)
    → All IsNameByte a.name) (one : (env : Environment) (text a b : List ℕ) → IsShort R M env a text → IsShort R M env b text → a ≡ b) where
  stated_lacks : (byte : ℕ) → byte < 32 → (env : Environment) (line : List ℕ) (m : Manner) (s : Statement) → IsRight R env line s
      → Lacks byte (short_text m s)
  stated_lacks byte h env line m (OfParameter r) (states, faultless) = parameter_lacks byte h r states.can
  stated_lacks byte h env line m (OfApplication a) (states, faultless) =
      application_lacks byte h m a states.can (bytes env a faultless.accepted)

  short_plain : (env : Environment) (line text : List ℕ) → IsShort R M env line text → IsPlainLine text
  short_plain env line text h = record {
    feed = subst (Lacks 10) (sym h.is) (stated_lacks 10 (omega arith) env line h.manner h.statement h.right);
    return = subst (Lacks 13) (sym h.is) (stated_lacks 13 (omega arith) env line h.manner h.statement h.right);
  }

  texts_plain : (env env' : Environment) (lines texts : List (List ℕ)) → AreShort R M env lines texts env' → All IsPlainLine texts
  texts_plain env env' [] [] h = All-nil IsPlainLine
  texts_plain env env' [] (t ∷ ts) h = absurd h
  texts_plain env env' (l ∷ ls) [] h = absurd h
  texts_plain env env' (l ∷ ls) (t ∷ ts) (short, rest) =
      All-cons IsPlainLine t ts (short_plain env l t short) (texts_plain (with_values env (defined_by short.statement)) env' ls ts rest)

  texts_filled : (env env' : Environment) (lines texts : List (List ℕ)) → AreShort R M env lines texts env' → All (λ t. t ≢ []) texts
  texts_filled env env' [] [] h = All-nil (λ t. t ≢ [])
  texts_filled env env' [] (t ∷ ts) h = absurd h
  texts_filled env env' (l ∷ ls) [] h = absurd h
  texts_filled env env' (l ∷ ls) (t ∷ ts) (short, rest) =
      All-cons (λ t. t ≢ []) t ts (has_text R M env l t short) (texts_filled (with_values env (defined_by short.statement)) env' ls ts rest)

  -- ---- a list that was written in the short form is written back

  -- the lines of what was written are the texts, and none of them is skipped
  filled_back : (lines texts : List (List ℕ)) (env : Environment) (out : List ℕ) → AreShort R M nothing_defined lines texts env
      → out ≡ text_of_lines texts → filled (lines_of out) ≡ texts
  filled_back lines texts env out short is =
      ap filled (ap lines_of is ∙ lines_back texts (texts_plain nothing_defined env lines texts short))
      ∙ all_filled texts (texts_filled nothing_defined env lines texts short)

  only_back : (input out : List ℕ) → IsShortened R M input false out → (is_rejection : Bool) (text : List ℕ)
      → IsSpelled R M out is_rejection text → (is_rejection ≡ false) × (text ≡ text_of_lines (filled (lines_of input)))
  only_back input out (texts, (env, short), is) false text (lines, (e, reads), said) =
      let back = filled_back (filled (lines_of input)) texts env out short is in
      let same = one_reading R M one_statement one nothing_defined e env lines (filled (lines_of input)) texts
      (subst (λ ts. AreShort R M nothing_defined lines ts e) back reads) short in
      (refl, said ∙ ap text_of_lines same.0)
  only_back input out (texts, (env, short), is) true text (n, first, said) =
      let back = filled_back (filled (lines_of input)) texts env out short is in
      absurd (reads_all R M one_statement one (filled (lines_of input)) (lines_of out) env n
      (subst (λ ts. AreShort R M nothing_defined (filled (lines_of input)) ts env) (sym back) short) first)

  list_back : (input out : List ℕ) → IsShortened R M input false out → IsSpelled R M out false (text_of_lines (filled (lines_of input)))
  list_back input out (texts, (env, short), is) =
      let back = filled_back (filled (lines_of input)) texts env out short is in
      (filled (lines_of input), (env, subst (λ ts. AreShort R M nothing_defined (filled (lines_of input)) ts env) (sym back) short), refl)

  pub written_back : (input out : List ℕ) → IsShortened R M input false out → (is_rejection : Bool) (text : List ℕ)
      → (IsSpelled R M out is_rejection text ↔ ((is_rejection ≡ false) × (text ≡ text_of_lines (filled (lines_of input)))))
  written_back input out short is_rejection text = (
    only_back input out short is_rejection text,
    λ h. subst (λ z. IsSpelled R M out z text) (sym h.0) (subst (λ t. IsSpelled R M out false t) (sym h.1) (list_back input out short)),
  )

-- ---- by tables

module _ (tables : TableContents) (well : IsWellFormedOpcodes tables) where
  opcode_bytes : (op : ℕ) (name : List ℕ) → at_opcode tables.names op ≡ Some name → All IsNameByte name
  opcode_bytes zero name e = absurd (cc)
  opcode_bytes (suc k) name e = all_name_bytes name (at_place IsName tables.names k name well.parts.names e)

  allowed_bytes : (env : Environment) (a : Application) → IsAccepted (AllowedReply tables) env (OfApplication a) → All IsNameByte a.name
  allowed_bytes env a (types, have, h) = (let (op, named, allows) = h in opcode_bytes op a.name named.holds)

  pub back_by_tables : (input out : List ℕ) → IsShortened (AllowedReply tables) (IsMannerIn tables) input false out
      → (is_rejection : Bool) (text : List ℕ) → (IsSpelled (AllowedReply tables) (IsMannerIn tables) out is_rejection text
      ↔ ((is_rejection ≡ false) × (text ≡ text_of_lines (filled (lines_of input)))))
  back_by_tables = written_back (AllowedReply tables) (IsMannerIn tables) allowed_bytes (one_line tables well)

-- ---- as valid declarations mean

module _ (d : InstructionSet) (valid : IsValid d) where
  accepted_bytes : (env : Environment) (a : Application) → IsAccepted (AcceptedReply d) env (OfApplication a) → All IsNameByte a.name
  accepted_bytes env a (types, have, h) = (let (b, asked, accepts) = h in all_name_bytes a.name (asked_name d valid a.name b asked))

  pub back_by_declarations : (input out : List ℕ) → IsShortened (AcceptedReply d) (IsMannerDeclared d) input false out
      → (is_rejection : Bool) (text : List ℕ) → (IsSpelled (AcceptedReply d) (IsMannerDeclared d) out is_rejection text
      ↔ ((is_rejection ≡ false) × (text ≡ text_of_lines (filled (lines_of input)))))
  back_by_declarations = written_back (AcceptedReply d) (IsMannerDeclared d) accepted_bytes (one_line_declared d valid)
