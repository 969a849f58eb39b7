use Rattle.std.proofs.Common.{◌≡◌, ℕ, ◌<◌, slice_get}
use Rattle.offer_engine.specs.Questions.{asked}
use Rattle.offer_engine.proofs.answering.first_wrong.Given as goal

-- the answers before are those of the questions
abbrev pub invariant-loop-place : goal.invariant-loop-place
invariant-loop-place l = (k : ℕ) → k < l.place → slice_get (asked l.answers) k ≡ slice_get l.wanted k
