-- What a map has for a name, where one was put in.
use Rattle.std.proofs.Common.{◌≡◌, ◌∙◌, ℕ, ◌+◌, Bool, true, false, cond, eqb, List, sym, ap, refl, min}
use Rattle.std.specs.Prelude.{◌||◌, Option, Some, is_some}
use Rattle.std.specs.Ordering.{nat_cmp, is_eq}
use Rattle.std.specs.Cmp.Lexicographic.{slice_cmp, pointwise, bytes_decides}
use Rattle.std.specs.Map.{lookup}
use Rattle.std.specs.Option.{unwrap_or}
use Rattle.std.specs.BTreeMap.{BTreeMap, insert_entry}
use Rattle.std.specs.Global.{Vec}
use Rattle.std.proofs.lemmas.Map.Text.{is_eq-slice_cmp}
use Rattle.meta_file_types.proofs.Inserted.{lookup_inserted}
use Rattle.meta_file_describe.specs.declared.words.NameCounts.{NameCounts}
use Rattle.meta_file_describe.specs.declared.words.Words.{Words}
use Rattle.meta_file_describe.specs.Counted.{kept_at, count_of}
use Rattle.meta_file_describe.specs.GivenWords.{is_given}

pub kept_inserted : {X : Type 0} (old new : BTreeMap (Vec ℕ) X) (key : Vec ℕ) (name : List ℕ) (kept : X) → key.items ≡ name
    → new.entries ≡ insert_entry (λ x y. slice_cmp nat_cmp x.items y.items) old.entries key kept
    → (q : List ℕ) → kept_at new q ≡ cond (pointwise eqb q name) (Some kept) (kept_at old q)
kept_inserted old new key name kept e is q =
    ap (lookup (λ (k : Vec ℕ). is_eq (slice_cmp nat_cmp q k.items))) is
    ∙ (lookup_inserted (λ (k : Vec ℕ). k.items) q old.entries key kept
    ∙ ap (λ (b : Bool). cond b (Some kept) (kept_at old q))
    (is_eq-slice_cmp q key.items ∙ ap (pointwise eqb q) e))

pub counted : (old new : NameCounts) (key : Vec ℕ) (name : List ℕ) (count limit : ℕ) → key.items ≡ name
    → new.counts.entries ≡ insert_entry (λ x y. slice_cmp nat_cmp x.items y.items) old.counts.entries key count
    → count ≡ min (count_of old name + 1) limit → (q : List ℕ)
    → count_of new q ≡ cond (pointwise eqb q name) (min (count_of old q + 1) limit) (count_of old q)
counted old new key name count limit e is more q =
    ap (λ (o : Option ℕ). unwrap_or o 0) (kept_inserted old.counts new.counts key name count e is q)
    ∙ (elim (pointwise eqb q name) as (λ (b : Bool). pointwise eqb q name ≡ b
    → unwrap_or (cond b (Some count) (kept_at old.counts q)) 0 ≡ cond b (min (count_of old q + 1) limit) (count_of old q)) [
      | true ↦ λ t. more ∙ ap (λ (w : List ℕ). min (count_of old w + 1) limit) (sym ((bytes_decides q name).0 t))
      | false ↦ λ t. refl
    ] refl)

pub word_kept : (old new : Words) (key : Vec ℕ) (word : List ℕ) (number : ℕ) → key.items ≡ word
    → new.given.entries ≡ insert_entry (λ x y. slice_cmp nat_cmp x.items y.items) old.given.entries key number
    → (other : List ℕ) → is_given new other ≡ (pointwise eqb other word || is_given old other)
word_kept old new key word number e is other =
    ap is_some (kept_inserted old.given new.given key word number e is other)
    ∙ some_in (pointwise eqb other word) number (kept_at old.given other)
  where
    some_in : (b : Bool) (n : ℕ) (o : Option ℕ) → is_some (cond b (Some n) o) ≡ (b || is_some o)
    some_in true n o = refl
    some_in false n o = refl
