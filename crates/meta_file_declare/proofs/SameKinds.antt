-- Kinds and formats that are the same.
use Rattle.std.proofs.Common.{◌≡◌, ℕ, List, [], ◌∷◌, refl, sym, ap, ◌∙◌, arith}
use Rattle.std.specs.List.{AllZip}
use Rattle.meta_operands.specs.Kind.{doc_of_kind}
use Rattle.meta_operands.specs.declared.kind.OperandKind.{OperandKind}
use Rattle.meta_operands.specs.declared.kind.OperandKindFields.{OperandKindFields}
use Rattle.meta_operands.specs.declared.kind.OperandKindFields.TheVariants as fields
use Rattle.meta_file_types.specs.Meant.{MeantType, MeantSort, Entity, Imm, ImmEnum, VariableArgs, Value, MeantKind, MeantRoot}
use Rattle.meta_file_types.specs.Meant.{Sense, TypeSense, KindSense}
use Rattle.meta_file_types.specs.Symbols.{symbol_of}
use Rattle.meta_file_types.specs.Registered.{Registered, IsRegistryOf, IsTypeIn, AreValuesIn, AreFieldsIn, IsKindIn}
use Rattle.meta_file_types.specs.Operands.{IsValueKindIn, IsOperandKindIn}

pub kind_same : (a b : OperandKind) → a.rust_field_name ≡ b.rust_field_name → a.rust_type ≡ b.rust_type → a.fields ≡ b.fields
    → doc_of_kind a ≡ doc_of_kind b → a ≡ b
kind_same a b e f g h = grind arith

-- pairs of what is in the same relation to a third
pub pairs_same : {X Y : Type 0} (R : X → Y → Type 0) (S : Y → Y → Type 0) → ((x : X) (y z : Y) → R x y → R x z → S y z)
    → (xs : List X) (ys zs : List Y) → AllZip R xs ys → AllZip R xs zs → AllZip S ys zs
pairs_same R S g [] [] [] h k = tt
pairs_same R S g [] [] (z ∷ zs) h k = absurd k
pairs_same R S g [] (y ∷ ys) zs h k = absurd h
pairs_same R S g (x ∷ xs) [] zs h k = absurd h
pairs_same R S g (x ∷ xs) (y ∷ ys) [] h k = absurd k
pairs_same R S g (x ∷ xs) (y ∷ ys) (z ∷ zs) h k = (g x y z h.0 k.0, pairs_same R S g xs ys zs h.1 k.1)

-- pairs that are the same
pub equal_pairs : {Y : Type 0} (ys zs : List Y) → AllZip (λ (y z : Y). y ≡ z) ys zs → ys ≡ zs
equal_pairs [] [] h = refl
equal_pairs [] (z ∷ zs) h = absurd h
equal_pairs (y ∷ ys) [] h = absurd h
equal_pairs (y ∷ ys) (z ∷ zs) h = let first = h.0 in let rest = equal_pairs ys zs h.1 in λ i. first i ∷ rest i

module _ (r : Registered) (roots : List MeantRoot) (is : IsRegistryOf r roots) where
  pub type_same : (m : MeantType) (n k : ℕ) → IsTypeIn r m n → IsTypeIn r m k → n ≡ k
  type_same m n k h g = is.apart (symbol_of m) n k h.number g.number

  values_same : (m : MeantType) (f g : OperandKindFields) → AreValuesIn r m f → AreValuesIn r m g → f ≡ g
  values_same m f g h k =
      h.is ∙ ap (λ (n : ℕ). fields.TypeVar n) (type_same m h.number k.number h.type_is k.type_is) ∙ sym k.is

  fields_same : (s : MeantSort) (f g : OperandKindFields) → AreFieldsIn r s f → AreFieldsIn r s g → f ≡ g
  fields_same Entity f g h k = h ∙ sym k
  fields_same Imm f g h k = h ∙ sym k
  fields_same (ImmEnum values) f g h k = h ∙ sym k
  fields_same VariableArgs f g h k = h ∙ sym k
  fields_same (Value m) f g h k = values_same m f g h k

  pub meant_kind_same : (k : MeantKind) (a b : OperandKind) → IsKindIn r k a → IsKindIn r k b → a ≡ b
  meant_kind_same k a b h g =
      kind_same a b (h.field ∙ sym g.field) (h.rust ∙ sym g.rust) (fields_same k.sort a.fields b.fields h.sort g.sort) (h.doc ∙ sym g.doc)

  value_kind_same : (m : MeantType) (a b : OperandKind) → IsValueKindIn r m a → IsValueKindIn r m b → a ≡ b
  value_kind_same m a b h g =
      kind_same a b (h.field ∙ sym g.field) (h.rust ∙ sym g.rust) (values_same m a.fields b.fields h.sort g.sort) (h.doc ∙ sym g.doc)

  pub operand_kind_same : (s : Sense) (a b : OperandKind) → IsOperandKindIn r s a → IsOperandKindIn r s b → a ≡ b
  operand_kind_same (TypeSense m) a b h g = value_kind_same m a b h g
  operand_kind_same (KindSense k) a b h g = meant_kind_same k a b h g
