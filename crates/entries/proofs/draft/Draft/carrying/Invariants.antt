-- The rules so far are carried, and there is room for the rest.
use Rattle.std.proofs.Common.{◌≡◌, ◌≤◌, vec_items, vec_len, vec_capacity}
use Rattle.entries.specs.Drafts.{carries}
use Rattle.entries.proofs.draft.Draft.carrying.Given as goal

abbrev pub invariant-loop-rule : goal.invariant-loop-rule
invariant-loop-rule l =
    record {
      carried : vec_items l.entries ≡ carries l.rule;
      as_many : vec_len l.entries ≡ l.rule;
      room : 32 ≤ vec_capacity l.entries;
    }
