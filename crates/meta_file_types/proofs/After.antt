-- How many functions lead from the root to a variable, by what is kept of it.
use Rattle.std.proofs.Common.{◌≡◌, ◌∙◌, ◌+◌, ℕ, List, [], ◌∷◌, length, sym, ap, subst}
use Rattle.std.specs.Prelude.{Option, Some, None}
use Rattle.std.proofs.lemmas.List.{length-append}
use Rattle.std.proofs.lemmas.Option.{slice_get_within, same_Some}
use Rattle.meta_types.specs.DerivedFunc.{function_of}
use Rattle.meta_typevar.specs.Registry.{variable_from, IsKept, IsRegistry, IsRootOrDerived}
use Rattle.meta_typevar.specs.declared.content.TypeVarContent.{TypeVarContent}
use Rattle.meta_typevar.specs.declared.content.TypeVarParent.{TypeVarParent}
use Rattle.meta_file_types.specs.Depth.{depth_at, IsAfter}

depth_kept : (vars : List TypeVarContent) (n : ℕ) (c : TypeVarContent) → IsKept vars n c → depth_at vars n ≡ length c.chain
depth_kept vars n c kept = ap (λ (o : Option TypeVarContent). length (variable_from n o).chain) kept

module _ (vars : List TypeVarContent) (n : ℕ) (c : TypeVarContent) (kept : IsKept vars n c) (h : IsRegistry vars) where
  -- what has no parent
  by_root : (b : Option TypeVarParent) → IsRootOrDerived vars n c b → b ≡ None → length c.chain ≡ 0
  by_root None d e = ap length d.1
  by_root (Some p) d e = absurd (cc)

  pub at_root : c.base ≡ None → depth_at vars n ≡ 0
  at_root e = depth_kept vars n c kept ∙ by_root c.base (h.variables n c kept).placed e

  -- what has one
  by_parent : (b : Option TypeVarParent) (p : TypeVarParent) → IsRootOrDerived vars n c b → b ≡ Some p → IsAfter vars n p.type_var
  by_parent None p d e = absurd (cc)
  by_parent (Some q) p d e =
      subst (λ (x : TypeVarParent). IsAfter vars n x.type_var) (same_Some q p e)
      (record {
        of = slice_get_within vars q.type_var d.parent_content d.kept;
        depth = depth_kept vars n c kept
            ∙ (ap length d.chain ∙ (length-append d.parent_content.chain (function_of q.derived_func ∷ [])
            ∙ ap (λ (k : ℕ). k + 1) (sym (depth_kept vars q.type_var d.parent_content d.kept))));
      })

  pub after : (p : TypeVarParent) → c.base ≡ Some p → IsAfter vars n p.type_var
  after p e = by_parent c.base p (h.variables n c kept).placed e
