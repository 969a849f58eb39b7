-- One more line is answered.
use Rattle.std.proofs.Common.{◌≡◌, ℕ, ◌+◌, List, [], ◌∷◌, ◌++◌, map, append_assoc, append-nil}
use Rattle.rule_sets.specs.Files.{DrawFile}
use Rattle.draw_tables.specs.declared.moves.Move.{Move}
use Rattle.draw_state.specs.declared.replies.Reply.{Reply}
use Rattle.draw_state.specs.Runs.{Reached, IsStep, IsRun}
use Rattle.draw_lines.specs.Words.{command_of}
use Rattle.draw_lines.specs.Texts.{reply_text}
use Rattle.draw_lines.specs.Answers.{replies_text, IsAnswer}

module _ (file : DrawFile) (all : List (List ℕ)) (ms : List Move) (n : ℕ) (text : List ℕ) where
  -- whatever run answers these lines makes, put after the text, the answer text
  abbrev SoFar : List (List ℕ) → Type 0
  SoFar ds = (rest : List Reached) → IsRun file ms n (map command_of ds) rest → IsAnswer file all (text ++ replies_text file rest)

  pub goes_on : (ds lines : List (List ℕ)) (line : List ℕ) (new_ms : List Move) (reply : Reply) → ds ≡ line ∷ lines → SoFar ds
      → IsStep file ms n (command_of line) new_ms reply
      → (rest : List Reached) → IsRun file new_ms (n + 1) (map command_of lines) rest → IsAnswer file all ((text ++ reply_text file reply) ++ replies_text file rest)
  goes_on ds lines line new_ms reply ds_are so_far step rest run =
      rw append_assoc (so_far (record { moves = new_ms; reply = reply } ∷ rest) (rw ds_are (step, run)))

  pub ends : (ds : List (List ℕ)) → ds ≡ [] → SoFar ds → IsAnswer file all text
  ends ds none so_far = let h = so_far [] (rw none tt) in rw append-nil at h
