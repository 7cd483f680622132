-- The laws of reading; antt computes the sample.
use Rattle.std.proofs.Common.{refl}
use Rattle.ruleformat.specs.Sample.{Sample}
use Rattle.ruleformat.proofs.Accepted.{accepted_is_encoded}
use Rattle.ruleformat.proofs.Bodies.{clause_bodies, folder_bodies, table_bodies}
use Rattle.ruleformat.proofs.Read.{encoded_is_accepted}
use Rattle.ruleformat.proofs.Refused.{refused_by_first}
use Rattle.ruleformat.proofs.reading_is_exact.Goals as goal

computed : Sample
computed =
    record {
      sample_read = refl;
      sample_encoded = refl;
      empty = refl;
      no_question = refl;
      last_byte_missing = refl;
      one_byte_more = refl;
      second_question = refl;
      kind_six = refl;
      many_options = refl;
      no_option = refl;
      half_a_row = refl;
      same_column = refl;
      far_column = refl;
      wide_row = refl;
      far_value = refl;
      no_such_sheet = refl;
      no_such_entry = refl;
    }

pub returns : goal.returns
returns c =
    record {
      accepted = accepted_is_encoded;
      encoded = encoded_is_accepted;
      refused = refused_by_first;
      sample = computed;
      tables = table_bodies;
      clauses = clause_bodies;
      folders = folder_bodies;
    }
