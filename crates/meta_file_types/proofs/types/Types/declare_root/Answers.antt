use Rattle.std.proofs.Common.{ℕ, length, ap, refl}
use Rattle.meta_file_types.specs.declared.words.Meaning.TheVariants as meanings
use Rattle.meta_file_types.specs.Meant.{Declared, TypeSense, root_type}
use Rattle.meta_file_types.specs.Said.{root_with}
use Rattle.meta_file_types.proofs.Fresh.{declared_held, declared_extends}
use Rattle.meta_file_types.proofs.types.Types.declare_root.Goals as goal

pub returns-clause-holds : goal.returns-clause-holds
returns-clause-holds g c =
    declared_held c.args.self.now.vars g.said.symbols c.args.self.now.plain.items c.args.self.now.words g.said.roots g.said.words
    c.requires.0 (root_with c.args.item.now c.args.set) c.new_root.new.vars c.insert.new.self
    (record {
      word = c.args.item.now.word;
      place = c.args.place;
      sense = TypeSense (root_type (Declared (length g.said.roots)) (root_with c.args.item.now c.args.set).name c.args.set);
    }) (record { place = c.args.place; meaning = meanings.Type c.in_ok-variable.variable }) c.in_ok-variable.ensures.added refl c.requires.1.0
    c.in_ok-insert.ensures
    (ap (λ (n : ℕ). record { place = c.args.place; meaning = meanings.Type n }) c.in_ok-variable.ensures.number)

pub returns-clause-extends : goal.returns-clause-extends
returns-clause-extends g c =
    declared_extends c.args.self.now.vars g.said.symbols c.args.self.now.plain.items c.args.self.now.words g.said.roots g.said.words
    c.requires.0 (root_with c.args.item.now c.args.set) c.new_root.new.vars c.in_ok-variable.ensures.added
