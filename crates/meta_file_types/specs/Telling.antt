-- Meanings that may be refused, each for a reason.
--     a >>= f                       the meaning a, and then what f makes of it, or the first reason
--     TellsBy why By result meant   what a function returned is, by By, what is meant, or the reason why nothing is, if the error has one
--     Tells By result meant         the same of types and kinds, where an error has a reason unless memory ran out
--     Refuses result wrong          an error says what is wrong, if anything is
use Rattle.std.specs.Prelude.{◌≡◌, Option, Some, None, Result, Ok, Err}
use Rattle.meta_file_types.specs.declared.refused.Reason.{Reason}
use Rattle.meta_file_types.specs.declared.refused.ItemError.{ItemError}
use Rattle.meta_file_types.specs.declared.refused.ItemError.TheVariants.{Memory, Wrong}

-- ---- reasons of any type

infixl 10 ◌>>=◌
abbrev pub ◌>>=◌ : {A B R : Type 0} → Result A R → (A → Result B R) → Result B R
(Ok x) >>= f = f x
(Err reason) >>= f = Err reason

-- what was found, or a reason
abbrev pub found_or : {A R : Type 0} → R → Option A → Result A R
found_or reason None = Err reason
found_or reason (Some x) = Ok x

-- a reason, if there is one
abbrev pub unless : {A R : Type 0} → Option R → Result A R → Result A R
unless None meant = meant
unless (Some reason) meant = Err reason

abbrev pub reason_in : {A R : Type 0} → Result A R → Option R
reason_in (Ok x) = None
reason_in (Err reason) = Some reason

-- nothing is meant for this reason, if there is one
abbrev pub IsWhy : {M R : Type 0} → Option R → Result M R → Type 0
IsWhy None meant = Unit {0}
IsWhy (Some reason) meant = meant ≡ Err reason

-- there is a meaning, and x is it
pub record IsMeant {X M R : Type 0} (By : M → X → Type 0) (x : X) (meant : Result M R) : Type 0 where
  pub meaning : M
  pub is : meant ≡ Ok meaning
  pub by : By meaning x

abbrev pub TellsBy : {X M E R : Type 0} → (E → Option R) → (M → X → Type 0) → Result X E → Result M R → Type 0
TellsBy why By (Ok x) meant = IsMeant By x meant
TellsBy why By (Err e) meant = IsWhy (why e) meant

-- ---- types and kinds

-- the reason that an error has
abbrev pub reason_of : ItemError → Option Reason
reason_of Memory = None
reason_of (Wrong reason) = Some reason

abbrev pub Fails : {M : Type 0} → ItemError → Result M Reason → Type 0
Fails e meant = IsWhy (reason_of e) meant

abbrev pub Tells : {X M : Type 0} → (M → X → Type 0) → Result X ItemError → Result M Reason → Type 0
Tells By result meant = TellsBy reason_of By result meant

-- nothing is wrong where something is returned, and otherwise the reason is what is wrong, unless memory ran out
abbrev pub Refuses : {X : Type 0} → Result X ItemError → Option Reason → Type 0
Refuses (Ok x) wrong = wrong ≡ None
Refuses (Err Memory) wrong = Unit {0}
Refuses (Err (Wrong reason)) wrong = wrong ≡ Some reason
