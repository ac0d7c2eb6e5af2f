-- What is promised of scripts and day files, as statements: each can be read without its proof.
use Rattle.std.specs.Prelude.{ℕ, ◌≡◌, Bool, true, false, List, [], ◌∷◌, ◌++◌, map, length, ltb, if◌then◌else◌}
use Rattle.std.proofs.Math.Option.{Option, none}
use Rattle.model.specs.declared.Event.{Event}
use Rattle.model.specs.declared.Command.TheVariants.{Asks}
use Rattle.model.specs.Lines.{Line, lines_of, line_command}
use Rattle.model.specs.Lists.{keep, all, any}
use Rattle.model.specs.Session.{Desk, answer, answers, session}
use Rattle.file_records.specs.Records.{is_wide, is_event}
use Rattle.file_scripts.specs.Scripts.{commands_of, stored, stored_of, script_of}

unfoldable pub is_stored : Line → Bool
is_stored l = ltb 0 (length (stored (line_command l)))

-- in the session of all lines, the answers to those that are stored
unfoldable pub answers_to_stored : List Line → Option Desk → List ℕ
answers_to_stored [] desk = []
answers_to_stored (l ∷ ls) desk =
    (if is_stored l then (answer (line_command l) desk).text else [])
    ++ answers_to_stored ls (answer (line_command l) desk).desk

pub record Scripts : Type 0 where
  -- a script of events asks for these events
  pub read_back : (es : List Event) → all is_event es ≡ true → commands_of (script_of es) ≡ map Asks es
  -- records can hold what is stored of a script
  pub held : (script : List ℕ) → all is_event (stored_of (commands_of script)) ≡ true
  pub narrow : (script : List ℕ) → any is_wide (stored_of (commands_of script)) ≡ false
  -- the session of what was stored is the session of the script without the lines that were not
  pub same_session :
      (script : List ℕ)
      → session (script_of (stored_of (commands_of script))) ≡ answers (keep is_stored (lines_of script)) none
  -- and leaving these out changes no other answer
  pub left_out : (ls : List Line) (desk : Option Desk) → answers (keep is_stored ls) desk ≡ answers_to_stored ls desk
