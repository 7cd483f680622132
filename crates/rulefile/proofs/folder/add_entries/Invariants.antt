-- The entries that are left decide as all of them do, and with the entries added make up the folder.
use Rattle.std.proofs.Common.{◌≡◌, ◌*◌, ◌++◌, length, drop}
use Rattle.refusals.specs.Checks.{judged}
use Rattle.ruleformat.specs.Folders.{entries_checks, entries_of, entry_pieces}
use Rattle.entries.specs.Drafts.{drafted}
use Rattle.rulefile.proofs.folder.add_entries.Given as goal

abbrev pub invariant-loop-item : goal.invariant-loop-item
invariant-loop-item l =
    record {
      decides : judged (entries_checks l.fn.draft.options l.fn.draft.below l.body.place l.item-counter (entry_pieces (drop (12 * l.item-counter) l.body.bytes.now))) (tt {0})
          ≡ judged (entries_checks l.fn.draft.options l.fn.draft.below l.body.place 0 (entry_pieces l.body.bytes.now)) (tt {0});
      added : drafted l.draft ++ entries_of (drop (12 * l.item-counter) l.body.bytes.now) ≡ entries_of l.body.bytes.now;
      count : length (drafted l.draft) ≡ l.item-counter;
      options : l.draft.options ≡ l.fn.draft.options;
      below : l.draft.below ≡ l.fn.draft.below;
    }
