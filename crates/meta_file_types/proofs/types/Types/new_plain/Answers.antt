use Rattle.std.proofs.Common.{◌∙◌, ℕ, [], ◌∷◌, ◌++◌, ap}
use Rattle.meta_file_types.proofs.Fresh.{plain_is, plain_held, plain_extends}
use Rattle.meta_file_types.proofs.types.Types.new_plain.Goals as goal

pub returns-clause-means : goal.returns-clause-means
returns-clause-means g c =
    plain_is c.args.self.now.vars g.said.symbols c.args.self.now.plain.items c.args.self.now.words g.said.roots g.said.words c.requires.0
    c.args.value_type c.requires.1 c.add_plain_root.new.vars c.in_ok-variable.variable c.in_ok-variable.ensures.added
    c.in_ok-variable.ensures.number

pub returns-clause-holds : goal.returns-clause-holds
returns-clause-holds g c =
    plain_held c.args.self.now.vars g.said.symbols c.args.self.now.plain.items c.args.self.now.words g.said.roots g.said.words c.requires.0
    c.args.value_type c.requires.1 c.add_plain_root.new.vars c.push.new.self.items c.in_ok-variable.ensures.added
    (c.in_ok-push.ensures.items
    ∙ ap (λ (n : ℕ). c.args.self.now.plain.items ++ (record { value_type = c.args.value_type; variable = n }) ∷ [])
    c.in_ok-variable.ensures.number)

pub returns-clause-extends : goal.returns-clause-extends
returns-clause-extends g c =
    plain_extends c.args.self.now.vars g.said.symbols c.args.self.now.plain.items c.args.self.now.words g.said.roots g.said.words
    c.requires.0 c.args.value_type c.requires.1 c.add_plain_root.new.vars c.in_ok-variable.ensures.added
