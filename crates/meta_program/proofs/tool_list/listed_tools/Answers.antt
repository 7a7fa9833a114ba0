use Rattle.std.proofs.Common.{[], ◌∷◌, refl, inl, inr, arith}
use Rattle.meta_query.specs.Command.{number_words}
use Rattle.meta_query.specs.declared.command.Command.TheVariants.{Query, Recheck, Tables, Types, Settings, Instructions, Builder, Synth}
use Rattle.meta_asm.specs.Form.{form_name}
use Rattle.meta_asm.specs.declared.form.Form.TheVariants.{Short}
use Rattle.meta_program.specs.declared.tool.Lone.TheVariants as lone
use Rattle.meta_program.specs.declared.tool.Why.TheVariants.{Untold}
use Rattle.meta_program.specs.declared.tool.Tool.TheVariants.{Run, Explain, Verify, Asm, Flags, Audit, Check, Describe}
use Rattle.meta_program.proofs.ToolsListed.{all_listed, all_named, all_asked}
use Rattle.meta_program.proofs.ListRows.{tool_list}
use Rattle.meta_program.proofs.tool_list.listed_tools.Goals as goal

pub returns-clause-listed : goal.returns-clause-listed
returns-clause-listed c =
    all_listed _ (elim [
      | Query ↦ record { place = 5; entry = _; at = refl; name = refl; numbers = refl; first = refl }
      | Recheck ↦ record { place = 7; entry = _; at = refl; name = refl; numbers = refl; first = refl }
      | Tables ↦ record { place = 0; entry = _; at = refl; name = refl; numbers = refl; first = refl }
      | Types ↦ record { place = 1; entry = _; at = refl; name = refl; numbers = refl; first = refl }
      | Settings ↦ record { place = 2; entry = _; at = refl; name = refl; numbers = refl; first = refl }
      | Instructions ↦ record { place = 3; entry = _; at = refl; name = refl; numbers = refl; first = refl }
      | Builder ↦ record { place = 4; entry = _; at = refl; name = refl; numbers = refl; first = refl }
      | (Synth n) ↦ record { place = 8; entry = _; at = refl; name = refl; numbers = refl; first = refl }
    ]) (elim [
      | lone.Explain ↦ record { place = 6; entry = _; at = refl; name_is = refl; none = refl; first = refl }
      | lone.Flags ↦ record { place = 11; entry = _; at = refl; name_is = refl; none = refl; first = refl }
      | lone.Audit ↦ record { place = 12; entry = _; at = refl; name_is = refl; none = refl; first = refl }
      | lone.Check ↦ record { place = 13; entry = _; at = refl; name_is = refl; none = refl; first = refl }
      | lone.Describe ↦ record { place = 14; entry = _; at = refl; name_is = refl; none = refl; first = refl }
    ]) (record { place = 9; entry = _; at = refl; name_is = refl; none = refl; first = refl })

pub returns-clause-named : goal.returns-clause-named
returns-clause-named c =
    all_named _ _ _ _ (record { place = 10; at = refl; name_is = refl }) (record { place = 0; at = refl; name_is = refl })
    (record { place = 9; at = refl; name_is = refl }) (returns-clause-listed c)

pub returns-clause-commands : goal.returns-clause-commands
returns-clause-commands c =
    all_asked _ (
      inl (inl (Tables, tt, refl, refl, refl)),
      (
        inl (inl (Types, tt, refl, refl, refl)),
        (
          inl (inl (Settings, tt, refl, refl, refl)),
          (
            inl (inl (Instructions, tt, refl, refl, refl)),
            (
              inl (inl (Builder, tt, refl, refl, refl)),
              (
                inl (inl (Query, tt, refl, refl, refl)),
                (
                  inr (inl (lone.Explain, refl, refl)),
                  (
                    inl (inl (Recheck, tt, refl, refl, refl)),
                    (
                      inl (inr (refl, refl)),
                      (
                        inr (inr (inl (refl, refl))),
                        (
                          inr (inr (inr (refl, refl))),
                          (
                            inr (inl (lone.Flags, refl, refl)),
                            (
                              inr (inl (lone.Audit, refl, refl)),
                              (
                                inr (inl (lone.Check, refl, refl)),
                                (
                                  inr (inl (lone.Describe, refl, refl)),
                                  tt,
                                ),
                              ),
                            ),
                          ),
                        ),
                      ),
                    ),
                  ),
                ),
              ),
            ),
          ),
        ),
      ),
    )

pub returns-clause-rows : goal.returns-clause-rows
returns-clause-rows c =
    tool_list _ (
      ([], (Run Tables, record { number = tt; are = refl })),
      (
        ([], (Run Types, record { number = tt; are = refl })),
        (
          ([], (Run Settings, record { number = tt; are = refl })),
          (
            ([], (Run Instructions, record { number = tt; are = refl })),
            (
              ([], (Run Builder, record { number = tt; are = refl })),
              (
                ([], (Run Query, record { number = tt; are = refl })),
                (
                  ([], (Explain, refl)),
                  (
                    ([], (Run Recheck, record { number = tt; are = refl })),
                    (
                      (number_words (Synth 0), (Run (Synth 0), record { number = omega arith; are = refl })),
                      (
                        ([], (Verify Untold, refl)),
                        (
                          (form_name Short ∷ [], (Asm Short Untold, refl)),
                          (
                            ([], (Flags, refl)),
                            (
                              ([], (Audit, refl)),
                              (
                                ([], (Check, refl)),
                                (
                                  ([], (Describe, refl)),
                                  tt,
                                ),
                              ),
                            ),
                          ),
                        ),
                      ),
                    ),
                  ),
                ),
              ),
            ),
          ),
        ),
      ),
    ) refl refl
