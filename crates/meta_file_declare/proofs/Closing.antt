-- What all items declare is what is kept of them.
use Rattle.std.proofs.Common.{◌≡◌, ◌≤◌, ℕ, List, Option, length, take, sym, ap, ◌∙◌, subst, arith}
use Rattle.std.specs.List.{AllZip}
use Rattle.std.proofs.lemmas.List.{take_all}
use Rattle.meta_typevar.specs.declared.content.TypeVarContent.{TypeVarContent}
use Rattle.meta_operands.specs.declared.format.InstructionFormat.{InstructionFormat}
use Rattle.meta_inst.specs.Builder.{Builder}
use Rattle.meta_settings.specs.GroupDeclaration.{GroupDeclaration}
use Rattle.meta_build.specs.AllDeclared.{Declared}
use Rattle.meta_file_syntax.specs.declared.items.Item.{Item}
use Rattle.meta_file_types.specs.declared.types.Types.{Types}
use Rattle.meta_file_types.specs.Registered.{Registered, IsRegistryOf}
use Rattle.meta_file_types.specs.Held.{registered, vars_in}
use Rattle.meta_file_declare.specs.declared.insts.Insts.{Insts}
use Rattle.meta_file_declare.specs.Registered.{IsFormatIn, IsBuilderIn}
use Rattle.meta_file_declare.specs.SaidOfInsts.{said}
use Rattle.meta_file_declare.specs.Held.{meant_formats, formats_in, insts_in}
use Rattle.meta_file_declare.specs.OpenGroup.{closed_by}
use Rattle.meta_file_declare.specs.AllItems.{AllRight, registry_of, DeclaresSet, Declares}
use Rattle.meta_file_declare.specs.SoFar.{HoldsSet}
use Rattle.meta_file_declare.proofs.Growing.{AreGroupsSoFar, groups_said}

set_held : (items : List Item) (t : Types) (s : Insts) (d : Declared) → HoldsSet t s (said items) → d.set.vars ≡ vars_in t
    → d.set.formats ≡ formats_in s → d.set.instructions ≡ insts_in s → DeclaresSet items d.set
set_held items t s d h vars formats insts =
    let all = said items in
    let same : registered t all.types ≡ registry_of items d.set =
    ap (λ (vs : List TypeVarContent). let r : Registered = record { vars = vs; symbols = all.types.symbols } in r) (sym vars) in
    record {
      vars = subst (λ (r : Registered). IsRegistryOf r all.types.roots) same h.types.registry;
      formats = subst (λ (fs : List InstructionFormat). AllZip (IsFormatIn (registry_of items d.set)) (meant_formats all.insts.formats) fs)
          (sym formats) (subst (λ (r : Registered). AllZip (IsFormatIn r) (meant_formats all.insts.formats)
          (formats_in s)) same h.insts.formats);
      instructions = subst (λ (bs : List Builder). AllZip (IsBuilderIn (registry_of items d.set)) all.insts.insts bs) (sym insts)
          (subst (λ (r : Registered). AllZip (IsBuilderIn r) all.insts.insts (insts_in s)) same h.insts.insts);
    }

pub declares_all : (items : List Item) (place : ℕ) (t : Types) (s : Insts) (done : List GroupDeclaration) (g : Option GroupDeclaration)
    (d : Declared) → length items ≤ place → AllRight items place → HoldsSet t s (said (take place items))
    → AreGroupsSoFar items place done g → d.set.vars ≡ vars_in t → d.set.formats ≡ formats_in s → d.set.instructions ≡ insts_in s
    → d.groups ≡ closed_by done g → Declares items d
declares_all items place t s done g d l right h groups vars formats insts closed = record {
  right = λ k less. right k (omega (arith, less, l));
  set = set_held items t s d (subst (λ (is : List Item). HoldsSet t s (said is)) (take_all place items l) h) vars formats insts;
  groups = closed ∙ groups_said items place done g l groups;
}
