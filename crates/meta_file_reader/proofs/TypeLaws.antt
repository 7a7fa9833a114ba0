-- Types: what is read is spelled so, what is spelled so is read, and a fault lies within what is left.
use Rattle.std.proofs.Common.{◌≡◌, ◌∙◌, ℕ, zero, suc, ◌≤◌, Bool, true, false, cond, List, [], ◌∷◌, ◌++◌, length}
use Rattle.std.proofs.Common.{Some, Result, Ok, Err, refl, sym, ap, subst, arith, append_assoc}
use Rattle.std.specs.Prelude.{◌==◌}
use Rattle.meta_file_syntax.specs.declared.token.Token.{Token}
use Rattle.meta_file_syntax.specs.declared.token.Token.TheVariants.{Word, Sign}
use Rattle.meta_types.specs.declared.derived_func.DerivedFunc.{DerivedFunc}
use Rattle.meta_types.specs.declared.derived_func.DerivedFunc.TheVariants as functions
use Rattle.meta_file_syntax.specs.declared.types.TypeExpr.{TypeExpr}
use Rattle.meta_file_syntax.specs.Spelling.{each_after, called, closed, type_expr}
use Rattle.meta_types.specs.declared.derived_func.TheConstants.{DERIVED_FUNCS}
use Rattle.meta_file_syntax.specs.Words.{function_text, function_named}
use Rattle.meta_file_reader.specs.declared.fault.Fault.{Fault}
use Rattle.meta_file_reader.specs.declared.fault.Wanted.{Wanted}
use Rattle.meta_file_reader.specs.declared.fault.Wanted.TheVariants as wanted
use Rattle.meta_file_reader.specs.declared.lists.Layout.TheVariants as layouts
use Rattle.meta_file_reader.specs.Parts.{◌>>=◌, word_at, sign_at, chosen_at, sign_first, call_first}
use Rattle.meta_file_reader.specs.Lists.{some_at}
use Rattle.meta_file_reader.specs.Fits.{Every}
use Rattle.meta_file_reader.specs.SetReading.{function_at, calls_at, closed_at, type_at}
use Rattle.meta_file_reader.proofs.PartLaws.{bind_ok, ok_is, Shorter, SignShorter, shorter_bind, shorter_sign, word_takes, word_within}
use Rattle.meta_file_reader.proofs.PartLaws.{sign_takes, sign_within, chosen_takes, chosen_within, written_so_takes}
use Rattle.meta_file_reader.proofs.ListLaws.{Taken, Takes, Keeps, some_takes, some_rows, some_within, Again, Ends, some_again}
use Rattle.meta_file_reader.proofs.ListLaws.{Leaves, some_leaves}
use Rattle.meta_file_reader.proofs.Ends.{of_last}
use Rattle.meta_file_reader.specs.Apart.{FunctionsApart, TypeApart}

-- ---- functions

pub function_is : (v : List ℕ) (f : DerivedFunc) → function_named v ≡ Some f → v ≡ function_text f
unfolding function_named
function_is v f e = written_so_takes function_text DERIVED_FUNCS v f e

function_known : (f : DerivedFunc) → function_named (function_text f) ≡ Some f
unfolding function_named
function_known functions.LaneOf = refl
function_known functions.AsTruthy = refl
function_known functions.HalfWidth = refl
function_known functions.DoubleWidth = refl
function_known functions.SplitLanes = refl
function_known functions.MergeLanes = refl
function_known functions.DynamicToVector = refl
function_known functions.Narrower = refl
function_known functions.Wider = refl

pub function_takes : (w : Wanted) → Takes called (function_at w)
unfolding function_at
function_takes w ts x e =
    let a = bind_ok (chosen_at w function_named ts) _ x e in
    let b = bind_ok (sign_at 40 a.0.1) _ x a.2 in
    let t0 : ts ≡ Word (function_text a.0.0) ∷ a.0.1 = chosen_takes w function_named function_text function_is ts a.0 a.1 in
    let t1 : a.0.1 ≡ Sign 40 ∷ b.0 = sign_takes (wanted.Sign 40) 40 a.0.1 b.0 b.1 in
    subst (Taken called ts) (ok_is (a.0.0, b.0) x b.2) (t0 ∙ ap (λ (r : List Token). Word (function_text a.0.0) ∷ r) t1)

function_within : (w : Wanted) → Keeps (function_at w)
unfolding function_at
function_within w ts =
    shorter_bind ts (chosen_at w function_named ts) _ (chosen_within w function_named ts)
    (λ f. shorter_sign f.1 (sign_at 40 f.1) _ (sign_within (wanted.Sign 40) 40 f.1) (λ r. omega arith))

function_again : (w : Wanted) (f : DerivedFunc) (rest : List Token) → function_at w (called f ++ rest) ≡ Ok (f, rest)
unfolding function_at
function_again w f rest = rw (function_known f) refl

abbrev AnyFunction : DerivedFunc → Type 0
AnyFunction f = Unit {0}

-- whatever comes after
abbrev Always : DerivedFunc → List Token → Type 0
Always f ts = Unit {0}

functions_again : Again called (function_at wanted.Function) layouts.Calls AnyFunction Always
functions_again = record {
  again = λ f rest good free. function_again wanted.Function f rest;
  follows = λ f rest good. refl;
  parted = λ f g rest. tt;
  opens = λ f rest. refl;
  some = λ f. omega arith;
}

every_function : (fs : List DerivedFunc) → Every AnyFunction fs
every_function [] = tt
every_function (f ∷ fs) = (tt, every_function fs)

calls_by : (ts : List Token) (x : List DerivedFunc × List Token) (b : Bool)
    → cond b (some_at (function_at wanted.Function) layouts.Calls ts) (Ok ([], ts)) ≡ Ok x → Taken (each_after [] called) ts x
calls_by ts x true e = some_rows called layouts.Calls ts x refl refl
    (some_takes called (function_at wanted.Function) layouts.Calls (function_takes wanted.Function) ts x e)
calls_by ts x false e = subst (Taken (each_after [] called) ts) (ok_is ([], ts) x e) refl

pub calls_takes : Takes (each_after [] called) calls_at
unfolding calls_at
calls_takes ts x e = calls_by ts x (call_first ts) e

calls_within_by : (ts : List Token) (b : Bool)
    → Shorter ts (cond b (some_at (function_at wanted.Function) layouts.Calls ts) (Ok ([], ts)))
calls_within_by ts true = some_within (function_at wanted.Function) layouts.Calls (function_within wanted.Function) ts
calls_within_by ts false = omega arith

calls_within : Keeps calls_at
unfolding calls_at
calls_within ts = calls_within_by ts (call_first ts)

calls_again : (fs : List DerivedFunc) (rest : List Token) → call_first rest ≡ false
    → calls_at (each_after [] called fs ++ rest) ≡ Ok (fs, rest)
unfolding calls_at
calls_again [] rest h = rw h refl
calls_again (f ∷ fs) rest h =
    let end : Ends layouts.Calls rest = rw h refl in
    let same : each_after [] called (f ∷ fs) ++ rest ≡ called f ++ (each_after [] called fs ++ rest) = simp append_assoc in
    some_again called (function_at wanted.Function) layouts.Calls AnyFunction Always functions_again f fs rest
    (every_function (f ∷ fs)) (of_last AnyFunction (λ g. tt) (f ∷ fs)) end

-- ---- `)`, once for each

closed_takes : (fs : List DerivedFunc) (ts rest : List Token) → closed_at (length fs) ts ≡ Ok rest → ts ≡ closed fs ++ rest
unfolding closed_at
closed_takes [] ts rest e = ok_is ts rest e
closed_takes (f ∷ fs) ts rest e =
    let a = bind_ok (sign_at 41 ts) (λ after. closed_at (length fs) after) rest e in
    sign_takes (wanted.Sign 41) 41 ts a.0 a.1 ∙ ap (λ (r : List Token). Sign 41 ∷ r) (closed_takes fs a.0 rest a.2)

closed_again : (fs : List DerivedFunc) (rest : List Token) → closed_at (length fs) (closed fs ++ rest) ≡ Ok rest
unfolding closed_at
closed_again [] rest = refl
closed_again (f ∷ fs) rest = closed_again fs rest

sign_longer : (short long : List Token) (read : Result (List Token) Fault) → length short ≤ length long → SignShorter short read
    → SignShorter long read
sign_longer short long (Ok r) le h = omega arith
sign_longer short long (Err d) le h = omega arith

then_shorter : (ts : List Token) (r : Result (List Token) Fault) (f : List Token → Result (List Token) Fault) → SignShorter ts r
    → ((rest : List Token) → SignShorter rest (f rest)) → SignShorter ts (r >>= f)
then_shorter ts (Ok rest) f h g = sign_longer rest ts (f rest) h (g rest)
then_shorter ts (Err d) f h g = h

closed_within : (n : ℕ) (ts : List Token) → SignShorter ts (closed_at n ts)
unfolding closed_at
closed_within zero ts = omega arith
closed_within (suc n) ts =
    then_shorter ts (sign_at 41 ts) (λ after. closed_at n after) (sign_within (wanted.Sign 41) 41 ts) (λ after. closed_within n after)

-- ---- a type

pub type_takes : Takes type_expr type_at
unfolding type_at
type_takes ts x e =
    let a = bind_ok (calls_at ts) _ x e in
    let b = bind_ok (word_at wanted.Type a.0.1) _ x a.2 in
    let c = bind_ok (closed_at (length a.0.0) b.0.1) _ x b.2 in
    let t0 : ts ≡ each_after [] called a.0.0 ++ a.0.1 = calls_takes ts a.0 a.1 in
    let t1 : a.0.1 ≡ Word b.0.0 ∷ b.0.1 = word_takes wanted.Type a.0.1 b.0 b.1 in
    let t2 : b.0.1 ≡ closed a.0.0 ++ c.0 = closed_takes a.0.0 b.0.1 c.0 c.1 in
    let made : TypeExpr × List Token = (record { functions = a.0.0; word = b.0.0 }, c.0) in
    let whole : ts ≡ type_expr made.0 ++ made.1 = t0
    ∙ ap (λ (r : List Token). each_after [] called a.0.0 ++ r) (t1 ∙ ap (λ (r : List Token). Word b.0.0 ∷ r) t2)
    ∙ sym (append_assoc (each_after [] called a.0.0) (Word b.0.0 ∷ closed a.0.0) c.0) in
    subst (Taken type_expr ts) (ok_is made x c.2) whole

pub type_within : Keeps type_at
unfolding type_at
type_within ts =
    shorter_bind ts (calls_at ts) _ (calls_within ts)
    (λ fs. shorter_bind fs.1 (word_at wanted.Type fs.1) _ (word_within wanted.Type fs.1)
    (λ w. shorter_sign w.1 (closed_at (length fs.0) w.1) _ (closed_within (length fs.0) w.1) (λ r. omega arith)))

no_call : (fs : List DerivedFunc) (rest : List Token) → FunctionsApart fs rest → sign_first 40 (closed fs ++ rest) ≡ false
no_call [] rest h = h
no_call (f ∷ fs) rest h = refl

-- a sign that isn't `(` doesn't go on with a type
pub type_parted : (fs : List DerivedFunc) (c : ℕ) (ts : List Token) → (c == 40) ≡ false → FunctionsApart fs (Sign c ∷ ts)
type_parted [] c ts h = h
type_parted (f ∷ fs) c ts h = tt

pub type_again : (t : TypeExpr) (rest : List Token) → TypeApart t rest → type_at (type_expr t ++ rest) ≡ Ok (t, rest)
unfolding type_at
type_again t rest h =
    rw (
      append_assoc (each_after [] called t.functions) (Word t.word ∷ closed t.functions) rest,
      calls_again t.functions (Word t.word ∷ (closed t.functions ++ rest)) (no_call t.functions rest h),
      closed_again t.functions rest,
    ) refl

-- ---- what is left doesn't go on with the type

calls_leave_by : (ts : List Token) (x : List DerivedFunc × List Token) (b : Bool) → call_first ts ≡ b
    → cond b (some_at (function_at wanted.Function) layouts.Calls ts) (Ok ([], ts)) ≡ Ok x → call_first x.1 ≡ false
calls_leave_by ts x true is e =
    (some_leaves Always (function_at wanted.Function) layouts.Calls refl (λ us y read. tt) ts x e).0
calls_leave_by ts x false is e = subst (λ (y : List DerivedFunc × List Token). call_first y.1 ≡ false) (ok_is ([], ts) x e) is

calls_leave : (ts : List Token) (x : List DerivedFunc × List Token) → calls_at ts ≡ Ok x → call_first x.1 ≡ false
unfolding calls_at
calls_leave ts x e = calls_leave_by ts x (call_first ts) refl e

closed_leaves : (fs : List DerivedFunc) (ts rest : List Token) → sign_first 40 ts ≡ false → closed_at (length fs) ts ≡ Ok rest
    → FunctionsApart fs rest
unfolding closed_at
closed_leaves [] ts rest h e = subst (λ (u : List Token). sign_first 40 u ≡ false) (ok_is ts rest e) h
closed_leaves (f ∷ fs) ts rest h e = tt

pub type_leaves : Leaves TypeApart type_at
unfolding type_at
type_leaves ts x e =
    let a = bind_ok (calls_at ts) _ x e in
    let b = bind_ok (word_at wanted.Type a.0.1) _ x a.2 in
    let c = bind_ok (closed_at (length a.0.0) b.0.1) _ x b.2 in
    let made : TypeExpr × List Token = (record { functions = a.0.0; word = b.0.0 }, c.0) in
    let first : sign_first 40 b.0.1 ≡ false = ap call_first (sym (word_takes wanted.Type a.0.1 b.0 b.1)) ∙ calls_leave ts a.0 a.1 in
    subst (λ (y : TypeExpr × List Token). TypeApart y.0 y.1) (ok_is made x c.2) (closed_leaves a.0.0 b.0.1 c.0 first c.1)
