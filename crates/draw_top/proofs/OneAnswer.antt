-- The answer text is a function of the input.
use Rattle.std.proofs.Common.{◌≡◌, ℕ, List, [], ◌++◌, map, refl, sym, ap, ◌∙◌, subst, Ok}
use Rattle.team_files.specs.Heads.{Head, head_of as read_head}
use Rattle.rule_sets.specs.Files.{DrawFile, file_of, IsWellFormed, IsFileOf}
use Rattle.draw_tables.specs.declared.moves.Move.{Move}
use Rattle.draw_tables.specs.declared.moves.Choice.{Choice}
use Rattle.draw_tables.specs.States.{IsState}
use Rattle.draw_tables.specs.Offers.{IsOffer}
use Rattle.draw_state.proofs.Steps.{one_next, one_run, some_next, some_run}
use Rattle.draw_lines.specs.Inputs.{command_lines}
use Rattle.draw_lines.specs.Words.{command_of}
use Rattle.draw_lines.specs.Texts.{opening_text}
use Rattle.draw_lines.specs.Answers.{replies_text, IsAnswer}
use Rattle.offer_engine.specs.Laws.{OfferExists}
use Rattle.draw_top.proofs.WhatWasRead.{both, excluded}
use Rattle.draw_top.specs.Laws.{OneAnswer, AnswerExists, AnswerOrRefusal}

-- ---- at most one

one_answer_of : (file : DrawFile) (lines : List (List ℕ)) (t u : List ℕ) → IsAnswer file lines t → IsAnswer file lines u → t ≡ u
one_answer_of file lines t u h g =
    let next : h.0 ≡ g.0 = one_next file [] h.0 g.0 h.2.opens g.2.opens in
    let run : h.1 ≡ g.1 = one_run file [] 0 (map command_of lines) h.1 g.1 h.2.runs g.2.runs in
    h.2.whole
    ∙ ap (λ n. opening_text file n ++ replies_text file h.1) next
    ∙ ap (λ xs. opening_text file g.0 ++ replies_text file xs) run
    ∙ sym g.2.whole

pub one_file : (bytes : List ℕ) (f g : DrawFile) → IsFileOf bytes f → IsFileOf bytes g → f ≡ g
one_file bytes f g h k =
    let same : h.0 ≡ k.0 = both _ read_head h.1.0 k.1.0 h.0 k.0 h.1.1.value k.1.1.value h.1.2 k.1.2 in
    let P : Head → Type 0 = λ x. file_of x ≡ Ok f in
    let first : file_of k.0 ≡ Ok f = subst P same h.2 in
    let both_ok = sym first ∙ k.2 in
    cc

pub one_answer : OneAnswer
one_answer input t u h g =
    let same : h.0 ≡ g.0 = one_file _ h.0 g.0 h.1 g.1 in
    let P : DrawFile → Type 0 = λ file. IsAnswer file (command_lines input) t in
    one_answer_of g.0 (command_lines input) t u (subst P same h.2) g.2

-- ---- at least one

pub answer_exists : OfferExists → AnswerExists
answer_exists offers input has =
    let file = has.0 in
    let read = has.1.1 in
    let formed : IsWellFormed file = (has.1.0, (read.0, read.2), has.1.2) in
    let offer : (ms : List Move) → IsState file ms → (offered : List Choice) × IsOffer file ms offered = λ ms state. offers file ms formed state in
    let first = offer [] tt in
    let next = some_next file [] first.0 first.1 in
    let run = some_run file offer [] 0 (map command_of (command_lines input)) tt in
    (opening_text file next.0 ++ replies_text file run.0, (file, has.1, (next.0, run.0, record { opens = next.1; runs = run.1; whole = refl })))

-- ---- not both

pub answer_or_refusal : AnswerOrRefusal
answer_or_refusal input text line h g = excluded _ h.0 g.0 h.1 g.1
