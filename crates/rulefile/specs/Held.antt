-- What the reader holds, and what a rule file holds.
use Rattle.std.specs.Prelude.{◌≡◌, ℕ, ◌+◌, ◌<◌, map, vec_items, vec_len}
use Rattle.ruleformat.specs.Clauses.{clauses_of}
use Rattle.ruleformat.specs.Contents.{Contents}
use Rattle.ruleformat.specs.Tables.{table_of}
use Rattle.entries.specs.Drafts.{drafted}
use Rattle.sheets.specs.Views.{clause_body, table_body}
use Rattle.rulefile.specs.Codes.{last_code}
use Rattle.rulefile.specs.declared.file.RuleFile.{RuleFile}
use Rattle.rulefile.specs.declared.file.FileParts.{FileParts}
use Rattle.rulefile.specs.declared.reader.Reader.{Reader}
use Rattle.rulefile.specs.declared.record.Before.{Before}

abbrev pub contents_in : FileParts → Contents
contents_in p =
    record {
      options = p.options;
      start_yes = p.start.yes;
      start_no = p.start.no;
      tables = map (λ t. table_of (table_body t)) (vec_items p.tables);
      clauses = map (λ s. clauses_of (clause_body s)) (vec_items p.clauses);
      folders = map drafted (vec_items p.folders);
      asked = p.asked;
    }

abbrev pub contents_of : RuleFile → Contents
contents_of f = contents_in f.parts

abbrev pub held : Reader → Contents
held r = contents_of r.file

-- what was read so far: the kind of the last record, 0 for none, and the contents
pub record SoFar : Type 0 where
  pub last : ℕ
  pub holds : Contents

abbrev pub kept : ℕ → Contents → SoFar
kept k c = record { last = k; holds = c }

abbrev pub so_far : Reader → SoFar
so_far r = kept (last_code r.last) (held r)

-- a record of kind k may be kept: a start comes first, and there is room for what it adds
abbrev pub Ready : Reader → ℕ → Type 0
Ready r k =
    (1 < k → 0 < last_code r.last)
    × (k ≡ 2 → vec_len r.file.parts.tables + vec_len r.file.parts.clauses < 32)
    × (k ≡ 3 → vec_len r.file.parts.tables + vec_len r.file.parts.clauses < 32)
    × (k ≡ 4 → vec_len r.file.parts.folders < 4)

abbrev pub summed : Reader → Before
summed r =
    record {
      kind = last_code r.last;
      sheets = vec_len r.file.parts.tables + vec_len r.file.parts.clauses;
      folders = vec_len r.file.parts.folders;
    }
