-- What an item adds, by what a function returned.
use Rattle.std.proofs.Common.{◌≡◌, ◌∙◌, ℕ, sym, ap, subst}
use Rattle.std.specs.Prelude.{Some, None, Result, Ok, Err, OnOk}
use Rattle.meta_file_syntax.specs.declared.formats.FormatItem.{FormatItem}
use Rattle.meta_file_syntax.specs.declared.insts.InstItem.{InstItem}
use Rattle.meta_file_syntax.specs.declared.items.Item.{Item}
use Rattle.meta_file_syntax.specs.declared.items.Item.TheVariants as item
use Rattle.meta_file_types.specs.declared.types.Types.{Types}
use Rattle.meta_file_types.specs.Said as types
use Rattle.meta_file_types.specs.Registered.{Extends}
use Rattle.meta_file_types.specs.Held.{registered}
use Rattle.meta_file_types.proofs.Staying.{extends_same}
use Rattle.meta_file_types.specs.declared.refused.Reason.{Reason}
use Rattle.meta_file_types.specs.declared.refused.ItemError.{ItemError}
use Rattle.meta_file_types.specs.declared.refused.ItemError.TheVariants.{Wrong}
use Rattle.meta_file_declare.specs.declared.insts.Insts.{Insts}
use Rattle.meta_file_types.specs.Telling.{reason_in, Fails, Tells}
use Rattle.meta_file_declare.specs.Formats.{MeantFormat, format_of}
use Rattle.meta_file_declare.specs.Insts.{MeantInst, inst_of}
use Rattle.meta_file_declare.specs.Mentioned.{after_inst}
use Rattle.meta_file_declare.specs.SaidOfInsts.{Above, with_format, with_inst, mentioning, with_insts, wrong_with}
use Rattle.meta_file_declare.specs.Held.{Holds}

-- ---- an answer and a meaning

right : {X M : Type 0} (R : M → X → Type 0) (result : Result X ItemError) (meant : Result M Reason) → Tells R result meant
    → OnOk result (reason_in meant ≡ None)
right R (Ok x) meant h = ap reason_in h.is
right R (Err e) meant h = tt

added : {X M : Type 0} (P : Result M Reason → Type 0) (result : Result X ItemError) (meant : Result M Reason)
    → Tells (λ m x. P (Ok m)) result meant → OnOk result (P meant)
added P (Ok x) meant h = subst P (sym h.is) h.by
added P (Err e) meant h = tt

-- a fact beside it
beside : {X M : Type 0} (R : M → X → Type 0) (P : Result M Reason → Type 0) (result : Result X ItemError) (meant : Result M Reason)
    → Tells R result meant → ((m : M) → OnOk result (P (Ok m))) → OnOk result (P meant)
beside R P (Ok x) meant h p = subst P (sym h.is) (p h.meaning)
beside R P (Err e) meant h p = tt

wrong_err : {M : Type 0} (e : ItemError) (meant : Result M Reason) (reason : Reason) → Fails e meant → e ≡ Wrong reason
    → reason_in meant ≡ Some reason
wrong_err e meant reason h same = ap reason_in (subst (λ e. Fails e meant) same h)

wrong : {X M : Type 0} (R : M → X → Type 0) (result : Result X ItemError) (meant : Result M Reason) → Tells R result meant
    → (reason : Reason) → result ≡ Err (Wrong reason) → reason_in meant ≡ Some reason
wrong R (Ok x) meant h reason e = absurd cc
wrong R (Err e) meant h reason same =
    let is : e ≡ Wrong reason = cc in
    wrong_err e meant reason h is

-- ---- formats

pub format_right : {X : Type 0} (a : Above) (x : Item) (i : FormatItem) (R : MeantFormat → X → Type 0) (result : Result X ItemError)
    → x ≡ item.Format i → Tells R result (format_of a.types.words a.insts.formats i) → OnOk result (wrong_with a x ≡ None)
format_right a x i R result e h =
    subst (λ x. OnOk result (wrong_with a x ≡ None)) (sym e) (right R result (format_of a.types.words a.insts.formats i) h)

always : {X : Type 0} (A : Type 0) (result : Result X ItemError) → A → OnOk result A
always A (Ok x) h = h
always A (Err e) h = tt

-- its types are those above
pub format_types : {X : Type 0} (P : types.Said → Type 0) (a : Above) (place : ℕ) (x : Item) (i : FormatItem) (result : Result X ItemError)
    → x ≡ item.Format i → P a.types → OnOk result (P (with_insts a place x).types)
format_types P a place x i result e p =
    subst (λ x. OnOk result (P (with_insts a place x).types)) (sym e) (always (P a.types) result p)

pub format_added : {X : Type 0} (t : Types) (new : Insts) (a : Above) (place : ℕ) (x : Item) (i : FormatItem) (result : Result X ItemError)
    → x ≡ item.Format i
    → Tells (λ m u. Holds (registered t a.types) new (with_format a.insts i.word place (Ok m))) result
    (format_of a.types.words a.insts.formats i)
    → OnOk result (Holds (registered t (with_insts a place x).types) new (with_insts a place x).insts)
format_added t new a place x i result e h =
    subst (λ x. OnOk result (Holds (registered t (with_insts a place x).types) new (with_insts a place x).insts)) (sym e)
    (added (λ meant. Holds (registered t a.types) new (with_format a.insts i.word place meant)) result
    (format_of a.types.words a.insts.formats i) h)

pub format_wrong : {X : Type 0} (a : Above) (x : Item) (i : FormatItem) (R : MeantFormat → X → Type 0) (result : Result X ItemError)
    → x ≡ item.Format i → Tells R result (format_of a.types.words a.insts.formats i)
    → (reason : Reason) → result ≡ Err (Wrong reason) → wrong_with a x ≡ Some reason
format_wrong a x i R result e h reason is = ap (wrong_with a) e ∙ wrong R result (format_of a.types.words a.insts.formats i) h reason is

-- ---- instructions

pub inst_right : {X : Type 0} (a : Above) (x : Item) (i : InstItem) (R : MeantInst → X → Type 0) (result : Result X ItemError)
    → x ≡ item.Inst i → Tells R result (inst_of a.types.words a.insts.formats i) → OnOk result (wrong_with a x ≡ None)
inst_right a x i R result e h =
    subst (λ x. OnOk result (wrong_with a x ≡ None)) (sym e) (right R result (inst_of a.types.words a.insts.formats i) h)

pub inst_types : {X : Type 0} (P : types.Said → Type 0) (a : Above) (place : ℕ) (x : Item) (i : InstItem) (R : MeantInst → X → Type 0)
    (result : Result X ItemError) → x ≡ item.Inst i → Tells R result (inst_of a.types.words a.insts.formats i)
    → OnOk result (P (after_inst a.types i)) → OnOk result (P (with_insts a place x).types)
inst_types P a place x i R result e h p =
    subst (λ x. OnOk result (P (with_insts a place x).types)) (sym e)
    (beside R (λ meant. P (mentioning a.types i meant)) result (inst_of a.types.words a.insts.formats i) h (λ m. p))

pub inst_added : {X : Type 0} (t : Types) (new : Insts) (a : Above) (place : ℕ) (x : Item) (i : InstItem) (result : Result X ItemError)
    → x ≡ item.Inst i
    → Tells (λ m u. Holds (registered t (after_inst a.types i)) new (with_inst a.insts (Ok m))) result
    (inst_of a.types.words a.insts.formats i)
    → OnOk result (Holds (registered t (with_insts a place x).types) new (with_insts a place x).insts)
inst_added t new a place x i result e h =
    subst (λ x. OnOk result (Holds (registered t (with_insts a place x).types) new (with_insts a place x).insts)) (sym e)
    (added (λ meant. Holds (registered t (mentioning a.types i meant)) new (with_inst a.insts meant)) result
    (inst_of a.types.words a.insts.formats i) h)

pub inst_wrong : {X : Type 0} (a : Above) (x : Item) (i : InstItem) (R : MeantInst → X → Type 0) (result : Result X ItemError)
    → x ≡ item.Inst i → Tells R result (inst_of a.types.words a.insts.formats i)
    → (reason : Reason) → result ≡ Err (Wrong reason) → wrong_with a x ≡ Some reason
inst_wrong a x i R result e h reason is = ap (wrong_with a) e ∙ wrong R result (inst_of a.types.words a.insts.formats i) h reason is

-- ---- any other item

pub registry_same : (t : Types) (s : types.Said) → Extends (registered t s) (registered t s)
registry_same t s = extends_same (registered t s)
