use Rattle.std.proofs.Common.{◌≡◌, take}
use Rattle.team_files.proofs.tag.Tags.clone_in.Given as goal

-- the tags so far
abbrev pub invariant-loop-tag : goal.invariant-loop-tag
invariant-loop-tag l = l.tags.items ≡ take l.tag-index l.all
