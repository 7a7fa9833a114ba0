use Rattle.std.proofs.Common.{◌≡◌, ◌++◌, ◌∷◌, [], take, length, codes, string_bytes, refl, sym, ap, ◌∙◌, subst, arith, append_assoc, eq-eqb}
use Rattle.std.proofs.Math.Seq.{take-length}
use Rattle.std.proofs.lemmas.Bool.{false≢true}
use Rattle.std.proofs.lemmas.Option.{slice_get-get_or}
use Rattle.meta_query_lines.specs.Inference.{AreResultWords, results_text}
use Rattle.meta_query_lines.proofs.InferenceLemmas.{first_word, next_word, more_text, one_text}
use Rattle.meta_query_lines.proofs.results.push_results.Goals as goal

pub loop-k-init : goal.loop-k-init
loop-k-init c =
    let some : length c.args.numbers.now ≡ 0 → ⊥ = λ e. false≢true (sym c.if-is_empty.false ∙ c.is_empty.ensures
    ∙ eq-eqb (length c.args.numbers.now) 0 e) in
    let (word, is, added) = c.in_ok-push_word.ensures in
    let at = slice_get-get_or c.args.numbers.now 0 0 (omega arith) in (
      word,
      [],
      first_word c.args.numbers.now _ word at is,
      added ∙ ap (λ t. t ++ word) c.in_ok-push_str.ensures.bytes
          ∙ append_assoc (string_bytes c.args.out.now) (codes "results ") word
          ∙ ap (λ t. string_bytes c.args.out.now ++ t) (sym (one_text word)),
    )

pub loop-k-preserved : goal.loop-k-preserved
loop-k-preserved c =
    let (first, others, words, so_far) = c.loop-k.invariant in
    let (word, is, added) = c.in_ok-push_word-2.ensures in
    let at = slice_get-get_or c.args.numbers.now c.loop-k.k 0 c.loop-k-test.true in (
      first,
      others ++ word ∷ [],
      next_word c.args.numbers.now c.loop-k.k _ (first ∷ others) word at words is,
      added ∙ ap (λ t. t ++ word) (c.in_ok-push_str-2.ensures.bytes ∙ ap (λ t. t ++ codes ",") so_far)
          ∙ append_assoc (string_bytes c.args.out.now ++ results_text (first ∷ others)) (codes ",") word
          ∙ append_assoc (string_bytes c.args.out.now) (results_text (first ∷ others)) (44 ∷ word)
          ∙ ap (λ t. string_bytes c.args.out.now ++ t) (sym (more_text first word others)),
    )

pub returns : goal.returns
returns c =
    let (first, others, words, so_far) = c.loop-k.invariant in
    let some : length c.args.numbers.now ≡ 0 → ⊥ = λ e. false≢true (sym c.if-is_empty.false ∙ c.is_empty.ensures
    ∙ eq-eqb (length c.args.numbers.now) 0 e) in
    let past = c.loop-k-test.false in
    let within = c.loop-k.auto.k-end (omega arith) in
    let end : c.loop-k.k ≡ length c.args.numbers.now = omega arith in
    let all : take c.loop-k.k c.args.numbers.now ≡ c.args.numbers.now = ap (λ n. take n c.args.numbers.now) end
    ∙ take-length c.args.numbers.now in
    (results_text (first ∷ others), (first ∷ others, subst (λ ns. AreResultWords ns (first ∷ others)) all words, refl), so_far)
