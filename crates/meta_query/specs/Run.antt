-- What a command answers.
--     IsOutputOf command d input output      the output of a command over declarations
use Rattle.std.specs.Prelude.{◌≡◌, ℕ, Bool, true, false, List, [], map}
use Rattle.meta_build.specs.AllDeclared.{Declared}
use Rattle.meta_gen.specs.WholeTables.{WholeTables, AreWholeTablesOf}
use Rattle.meta_table_text.specs.TableText.{table_text}
use Rattle.meta_table_text.specs.declared.version.Version.TheVariants.{Three}
use Rattle.meta_settings.specs.LaidOut.{built_of}
use Rattle.meta_build.specs.BuiltDeclarations.{BuiltDeclarations, AreBuilt}
use Rattle.meta_rust_text.specs.SettingsText.{settings_text}
use Rattle.meta_rust_text.specs.BuilderText.{builder_text}
use Rattle.meta_rust_text.specs.TypesText.{types_text}
use Rattle.meta_rust_text.specs.InstructionsText.{instructions_text}
use Rattle.meta_query_lines.specs.Answer.{IsOutput}
use Rattle.meta_run.specs.Run.{Outputs}
use Rattle.meta_query.specs.declared.command.Command.{Command}
use Rattle.meta_query.specs.declared.command.Command.TheVariants.{Query, Recheck, Tables, Types, Settings, Instructions, Builder, Synth}
use Rattle.meta_query.specs.Recheck.{IsRecheckOf}
use Rattle.meta_query.specs.Synthesis.{IsSynthOutput}

-- the text of what is built of the declarations
abbrev pub IsBuiltText : (BuiltDeclarations → List ℕ) → Declared → List ℕ → Type 0
IsBuiltText text d output = (b : BuiltDeclarations) × AreBuilt b × (b.declared ≡ d) × (output ≡ text b)

-- the output of `recheck`, which compares with the tables of the declarations
abbrev pub IsRechecked : Declared → List ℕ → List ℕ → Type 0
IsRechecked d input output = (t : WholeTables) × AreWholeTablesOf d t × IsRecheckOf t input output

-- The output of a command over declarations. For `query` it is the answer to each line of the input. For `recheck` it says how the text
-- compares, and gives the answers of the tables that were read. For `tables` it is the text of the tables of the declarations, for `types`
-- the text of the types, for `settings` the text of the groups of settings, and for `instructions` and `builder` the texts of what is built
-- of the declarations. For `synth` it is the summary of other declarations, which are made from its number. Only the first two commands
-- have an input.
abbrev pub IsOutputOf : Command → Outputs
IsOutputOf Query d input output = IsOutput d input output
IsOutputOf Recheck d input output = IsRechecked d input output
IsOutputOf Tables d input output = (input ≡ []) × (t : WholeTables) × AreWholeTablesOf d t × (output ≡ table_text Three t)
IsOutputOf Types d input output = (input ≡ []) × (output ≡ types_text)
IsOutputOf Settings d input output = (input ≡ []) × (output ≡ settings_text (map built_of d.groups))
IsOutputOf Instructions d input output = (input ≡ []) × IsBuiltText instructions_text d output
IsOutputOf Builder d input output = (input ≡ []) × IsBuiltText builder_text d output
IsOutputOf (Synth n) d input output = (input ≡ []) × IsSynthOutput n output

-- whether the command has an input
abbrev pub has_input : Command → Bool
has_input Query = true
has_input Recheck = true
has_input Tables = false
has_input Types = false
has_input Settings = false
has_input Instructions = false
has_input Builder = false
has_input (Synth n) = false

-- the command has an input
abbrev pub HasInput : Command → Type 0
HasInput command = has_input command ≡ true

-- the command writes a text, and has no input
abbrev pub WritesText : Command → Type 0
WritesText command = HasInput command → ⊥
