-- The command whose words are read, as the kit's `clap` sees it: what a parse reads of a command is its `App`.
use Rattle.std.specs.Prelude.{Bool, true, false, Some, codes}
use Rattle.clap.specs.Walk.{Rule, Text}
use Rattle.clap.specs.Simple.{App, new_app, new_rule, on_top, with_rule}
use Rattle.clap.specs.declared.builder.action.ArgAction.{ArgAction}
use Rattle.clap.specs.declared.builder.action.ArgAction.TheVariants.{Set, SetTrue}

-- a word that is known by its place
abbrev pub place : Text → Bool → Rule
place name required = record (new_rule name) { required = required }

-- an option or a flag, by its long name: with the action `Set` it has one value, with `SetTrue` none
abbrev pub named : Text → ArgAction → Rule
named name action = record (new_rule name) { long = Some name; action = Some action }

-- a command without words, help and version; the name of the program is not among its words
abbrev pub bare : App
bare =
    on_top (λ s. record s { no_binary_name = true; disable_help_flag = true; disable_version_flag = true })
    (new_app (codes "wcet"))

-- the mode, and the file where there is one
abbrev pub with_places : App → App
with_places app = with_rule (with_rule app (place (codes "mode") true)) (place (codes "file") false)

abbrev pub with_option : App → Text → App
with_option app name = with_rule app (named name Set)

-- the file of the table, the entry function, and the text of the input
abbrev pub with_texts : App → App
with_texts app = with_option (with_option (with_option app (codes "costs")) (codes "entry")) (codes "input")

-- the limits of a search
abbrev pub with_limits : App → App
with_limits app = with_option (with_option app (codes "turns")) (codes "conflicts")

-- the number and the size of a made case
abbrev pub with_case : App → App
with_case app = with_option (with_option app (codes "case")) (codes "size")

-- the flags
abbrev pub with_flags : App → App
with_flags app = with_rule app (named (codes "table") SetTrue)

unfoldable pub command : App
command = with_flags (with_case (with_limits (with_texts (with_places bare))))
