-- The words of formats, with one more.
use Rattle.std.proofs.Common.{◌≡◌, ◌∙◌, ◌+◌, ℕ, Bool, true, false, cond, List, [], ◌∷◌, ◌++◌, length, sym, ap, refl, subst, arith}
use Rattle.std.specs.Prelude.{Option, Some, None, Ok}
use Rattle.std.specs.BTreeMap as tree
use Rattle.std.specs.Cmp.{eq_by_cmp_equiv}
use Rattle.std.specs.Cmp.Lexicographic.{slice_cmp, bytes_decides, nat_list_cmp_total, nat_list_eq_equiv}
use Rattle.std.specs.Global.{Vec}
use Rattle.std.specs.List.{AllZip}
use Rattle.std.specs.Map.{lookup, KeepsOthers}
use Rattle.std.specs.Ordering.{nat_cmp, is_eq}
use Rattle.std.proofs.lemmas.Map.Text.{is_eq-slice_cmp}
use Rattle.std.proofs.lemmas.List.{length-map, map-append}
use Rattle.std.proofs.lemmas.Slice.Zip.{AllZip-long}
use Rattle.meta_lists.proofs.Pairs.{pairs_joined}
use Rattle.meta_operands.specs.declared.format.InstructionFormat.{InstructionFormat}
use Rattle.meta_inst.specs.Builder.{Builder}
use Rattle.meta_file_types.specs.Plain.{same_word}
use Rattle.meta_file_types.specs.Registered.{Registered}
use Rattle.meta_file_declare.specs.declared.insts.FormatWord.{FormatWord}
use Rattle.meta_file_declare.specs.declared.insts.FormatWords.{FormatWords}
use Rattle.meta_file_declare.specs.declared.insts.Insts.{Insts}
use Rattle.meta_file_declare.specs.Formats.{MeantFormat, FormatEntry, format_from, format_named}
use Rattle.meta_file_declare.specs.Insts.{MeantInst}
use Rattle.meta_file_declare.specs.SaidOfInsts.{SaidInsts, with_format, with_inst}
use Rattle.meta_file_declare.specs.Registered.{IsFormatIn, IsBuilderIn}
use Rattle.meta_file_declare.specs.Held.{Holds, word_at, meant_formats, formats_in, insts_in}

-- the last one is found where none before it is
abbrev or_last : Option FormatWord → FormatEntry → ℕ → List ℕ → Option FormatWord
or_last (Some f) e n w = Some f
or_last None e n w = cond (same_word e.word w) (Some (record { place = e.place; id = n })) None

past : (b : Bool) (f : FormatWord) (all rest : Option FormatWord) (e : FormatEntry) (m k : ℕ) (w : List ℕ) → all ≡ or_last rest e m w
    → m ≡ k → cond b (Some f) all ≡ or_last (cond b (Some f) rest) e k w
past true f all rest e m k w h same = refl
past false f all rest e m k w h same = h ∙ ap (λ n. or_last rest e n w) same

first_or_last : (n : ℕ) (es : List FormatEntry) (e : FormatEntry) (w : List ℕ)
    → format_from n (es ++ e ∷ []) w ≡ or_last (format_from n es w) e (n + length es) w
first_or_last n [] e w =
    let z : n ≡ n + 0 = omega arith in
    ap (λ m. or_last None e m w) z
first_or_last n (x ∷ es) e w =
    let z : n + 1 + length es ≡ n + length (x ∷ es) = omega arith in
    past (same_word x.word w) (record { place = x.place; id = n }) (format_from (n + 1) (es ++ e ∷ []) w) (format_from (n + 1) es w)
    e (n + 1 + length es) (n + length (x ∷ es)) w (first_or_last (n + 1) es e w) z

new_word : (e : FormatEntry) (w : List ℕ) (o : Option FormatWord) (n : ℕ) (b : Bool) → same_word e.word w ≡ b → (b ≡ true → o ≡ None)
    → cond b (Some (record { place = e.place; id = n })) o ≡ or_last o e n w
new_word e w None n b is none = ap (λ c. cond c (Some (record { place = e.place; id = n })) None) (sym is)
new_word e w (Some f) n true is none = absurd (some_none (none refl))
  where
    some_none : Some f ≡ None → ⊥
    some_none same = absurd cc
new_word e w (Some f) n false is none = refl

-- the words that are kept, with one more that none of them is
pub word_more : (es : List FormatEntry) (e : FormatEntry) (n : ℕ) (old new : List ℕ → Option FormatWord)
    → ((w : List ℕ) → old w ≡ format_named es w)
    → ((w : List ℕ) → new w ≡ cond (same_word e.word w) (Some (record { place = e.place; id = n })) (old w))
    → n ≡ length es → format_named es e.word ≡ None → (w : List ℕ) → new w ≡ format_named (es ++ e ∷ []) w
word_more es e n old new were are count none w =
    let same : n ≡ 0 + length es = omega (arith, count) in
    are w
    ∙ (new_word e w (old w) n (same_word e.word w) refl (λ is. were w ∙ (ap (format_named es) (sym ((bytes_decides e.word w).0 is)) ∙ none))
    ∙ (ap (λ o. or_last o e n w) (were w)
    ∙ (ap (λ m. or_last (format_from 0 es w) e m w) same ∙ sym (first_or_last 0 es e w))))

-- ---- what is kept of a word

apart : (v w k : List ℕ) → same_word v w ≡ false → same_word v k ≡ true → same_word w k ≡ false
apart v w k other e = ap (same_word w) (sym ((bytes_decides v k).0 e)) ∙ (turned w v ∙ other)
  where
    turned : (x y : List ℕ) → same_word x y ≡ same_word y x
    turned x y = nat_list_eq_equiv.symm x y

others_kept : (key : List ℕ) (w : List ℕ) (old new : List (Vec ℕ × FormatWord))
    → KeepsOthers (λ x y. is_eq (slice_cmp nat_cmp x.items y.items)) (λ k. is_eq (slice_cmp nat_cmp key k.items)) old new
    → same_word key w ≡ false
    → lookup (λ k. is_eq (slice_cmp nat_cmp w k.items)) new ≡ lookup (λ k. is_eq (slice_cmp nat_cmp w k.items)) old
unfolding KeepsOthers
others_kept key w old new h other =
    h (λ k. is_eq (slice_cmp nat_cmp w k.items)) (λ x y. (eq_by_cmp_equiv nat_list_cmp_total).congr w x.items y.items)
    (λ k e. is_eq-slice_cmp w k.items ∙ apart key w k.items other (sym (is_eq-slice_cmp key k.items) ∙ e))

-- where one was put in
pub word_inserted : (old new : FormatWords) (key : Vec ℕ) (word : List ℕ) (kept : FormatWord) → key.items ≡ word
    → tree.Updates (λ x y. slice_cmp nat_cmp x.items y.items) old.map new.map key (Some kept)
    → (w : List ℕ) → word_at new w ≡ cond (same_word word w) (Some kept) (word_at old w)
word_inserted old new key word kept e u w =
    subst (λ word. word_at new w ≡ cond (same_word word w) (Some kept) (word_at old w)) e (by (same_word key.items w) refl)
  where
    by : (b : Bool) → same_word key.items w ≡ b → word_at new w ≡ cond b (Some kept) (word_at old w)
    by true same = subst (λ w. word_at new w ≡ Some kept) ((bytes_decides key.items w).0 same) u.1
    by false other = others_kept key.items w old.map.entries new.map.entries u.3 other

-- ---- what is kept, with one more

pub format_more : (r : Registered) (old new : Insts) (s : SaidInsts) (word key : List ℕ) (place : ℕ) (m : MeantFormat)
    (f : InstructionFormat)
    → key ≡ word → Holds r old s → format_named s.formats word ≡ None → IsFormatIn r m f
    → formats_in new ≡ formats_in old ++ f ∷ []
    → ((w : List ℕ) → word_at new.words w
    ≡ cond (same_word key w) (Some (record { place = place; id = length (formats_in old) })) (word_at old.words w))
    → insts_in new ≡ insts_in old
    → Holds r new (with_format s word place (Ok m))
format_more r old new s word key place m f same h none is formats words insts =
    let e : FormatEntry = record { word = word; place = place; format = m } in
    let count : length (formats_in old) ≡ length s.formats =
    AllZip-long (IsFormatIn r) (meant_formats s.formats) (formats_in old) h.formats
    ∙ length-map s.formats (λ (x : FormatEntry). x.format) in
    let joined : AllZip (IsFormatIn r) (meant_formats s.formats ++ m ∷ []) (formats_in old ++ f ∷ []) =
    pairs_joined (IsFormatIn r) (meant_formats s.formats) (m ∷ []) (formats_in old) (f ∷ []) h.formats (is, tt) in
    record {
      words = word_more s.formats e (length (formats_in old)) (word_at old.words) (word_at new.words) h.words
          (λ w. words w ∙ ap (λ (k : List ℕ). cond (same_word k w) (Some (record { place = place; id = length (formats_in old) }))
          (word_at old.words w)) same)
          count none;
      formats = subst (AllZip (IsFormatIn r) (meant_formats (s.formats ++ e ∷ []))) (sym formats)
          (subst (λ (ms : List MeantFormat). AllZip (IsFormatIn r) ms (formats_in old ++ f ∷ []))
          (sym (map-append (λ (x : FormatEntry). x.format) s.formats (e ∷ []))) joined);
      insts = subst (AllZip (IsBuilderIn r) s.insts) (sym insts) h.insts;
    }

pub inst_more : (r : Registered) (old new : Insts) (s : SaidInsts) (m : MeantInst) (b : Builder) → Holds r old s → IsBuilderIn r m b
    → new.words ≡ old.words → formats_in new ≡ formats_in old → insts_in new ≡ insts_in old ++ b ∷ []
    → Holds r new (with_inst s (Ok m))
inst_more r old new s m b h is words formats insts = record {
  words = λ w. ap (λ (ws : FormatWords). word_at ws w) words ∙ h.words w;
  formats = subst (AllZip (IsFormatIn r) (meant_formats s.formats)) (sym formats) h.formats;
  insts = subst (AllZip (IsBuilderIn r) (s.insts ++ m ∷ [])) (sym insts)
      (pairs_joined (IsBuilderIn r) s.insts (m ∷ []) (insts_in old) (b ∷ []) h.insts (is, tt));
}
