-- The theorems stand where the things that they speak of are defined.
use Rattle.enquiry.proofs.Counted.{fewer_counted}
use Rattle.enquiry.proofs.Once.{determined}
use Rattle.enquiry.proofs.RunLaws.{run_law}
use Rattle.file_enquiry.proofs.FileLists.{file_listed}
use Rattle.folders.proofs.Stacks.{folder_replies, stack_allows_builds, stack_lawful}
use Rattle.file_enquiry.proofs.laws.enquiry_laws.Goals as goal

pub returns : goal.returns
returns c =
    record {
      lawful = stack_lawful;
      replies = folder_replies;
      allows = stack_allows_builds;
      run = run_law;
      determined = determined;
      fewer = fewer_counted;
      listed = file_listed;
    }
