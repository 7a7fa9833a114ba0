use Rattle.std.proofs.Common.{◌≡◌, ◌↔◌, ◌++◌, ◌/◌, ◌%◌, ◌==◌, ℕ, Bool, true, false, IsTrue, List, refl, sym, ap, ◌∙◌, string_bytes}
use Rattle.std.proofs.lemmas.Bool.{eq-eqb, ne_eqb, false≢true}
use Rattle.std.proofs.lemmas.Result.{on_ok_weaker}
use Rattle.meta_table_text.specs.OpcodeText.{counts_comment, flags_comment}
use Rattle.meta_table_text.proofs.opcode_block.push_flags_comment.Goals as goal

-- what tells whether a number is 1 is the test of it
one_told : (r : Bool) (n : ℕ) → IsTrue r ↔ (n ≡ 1) → r ≡ (n == 1)
one_told true n h = sym (eq-eqb n 1 (h.0 refl))
one_told false n h = sym (ne_eqb n 1 (λ e. false≢true (h.1 e)))

-- the same of four things is the same
four_told : {A B C D : Type 0} (f : A → B → C → D → List ℕ) (a a' : A) (b b' : B) (c c' : C) (d d' : D) → a ≡ a'
    → b ≡ b' → c ≡ c' → d ≡ d' → f a b c d ≡ f a' b' c' d'
four_told f a a' b b' c c' d d' p q r s = ap (λ x. f x b c d) p ∙ ap (λ x. f a' x c d) q ∙ ap (λ x. f a' b' x d) r
    ∙ ap (λ x. f a' b' c' x) s

pub returns : goal.returns
unfolding flags_comment
returns c =
    let flags = c.args.entry.flags in
    on_ok_weaker c.write.result
    (λ e. e ∙ ap (λ text. string_bytes c.args.out.now ++ text) (four_told (counts_comment c.args.name.now) _ _ _ _ _ _ _ _
    c.result_count-results.ensures.count (one_told _ (flags / 8 % 2) c.designated_controls-designated.ensures)
    (one_told _ (flags / 16 % 2) c.first_result_differs-differs.ensures) c.value_count-values.ensures.count))
    c.write.ensures.bytes
