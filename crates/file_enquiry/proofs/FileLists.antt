-- A listing of a file's rules that was run to its end gives all builds that the file allows.
use Rattle.std.proofs.Common.{◌≡◌, ◌≤◌, sym, ap, ◌∙◌, subst}
use Rattle.enquiry.specs.Fitting.{asked, Fitting, InOrder, known_with, Opening}
use Rattle.enquiry.specs.Histories.{given, History, standing}
use Rattle.enquiry.specs.RunLaw.{Sound}
use Rattle.enquiry.proofs.Counted.{all_given, first_of_kept}
use Rattle.enquiry.proofs.Enquiries.{sound_at}
use Rattle.file_enquiry.specs.FileListings.{FileBuild, FileListed, Listings}
use Rattle.file_enquiry.specs.FileOpenings.{OpenedOn}
use Rattle.listing.specs.declared.build.Build.{Build}
use Rattle.ruleformat.specs.Contents.{Contents}
use Rattle.ruleformat.specs.WellFormed.{WellFormed}
use Rattle.ruleformat.proofs.Accepted.{accepted_is_encoded}
use Rattle.ruleset.specs.Meaning.{Lawful}
use Rattle.rulestack.specs.FileRules.{file_rules}
use Rattle.rulestack.proofs.SheetsAllow.{file_allows_builds, file_lawful}

sound_file : (c : Contents) → WellFormed c → (o : Opening) → OpenedOn c o → Sound o
sound_file c fine o on =
    sound_at o (subst Lawful (sym on.rules) (file_lawful c)) (subst (λ n. n ≤ 64) (sym on.options) fine.few_options) on.order

-- what fits is what the file allows
module _ (c : Contents) (fine : WellFormed c) (o : Opening) (on : OpenedOn c o) (h : History) where
  rule_is : asked o ≡ (file_rules c).reply c.asked
  rule_is = ap (λ m. m.reply o.rule) on.rules ∙ ap (file_rules c).reply on.rule

  fits_file : (b : Build) → Fitting o h b → FileBuild c (known_with o (standing h)) b
  fits_file b fit =
      let allowed = subst (λ f. f fit.0 ≡ fit.0) rule_is fit.2.2 in
      (fit.0, fit.1, fit.2.0, fit.2.1, (file_allows_builds c fine c.asked fit.0 fit.2.0).0 allowed)

  file_fits : (b : Build) → FileBuild c (known_with o (standing h)) b → Fitting o h b
  file_fits b fit =
      let allowed = (file_allows_builds c fine c.asked fit.0 fit.2).1 fit.4 in
      (fit.0, fit.1, (fit.2, fit.3, subst (λ f. f fit.0 ≡ fit.0) (sym rule_is) allowed))

pub lists_file : (c : Contents) → WellFormed c → (o : Opening) → OpenedOn c o → Listings c o
lists_file c fine o on h kept ended =
    let first = first_of_kept o h kept in
    let all = all_given o (sound_file c fine o on) h kept ended in
    record {
      sound = λ b m. fits_file c fine o on h b (first.fitting b m);
      complete = λ b fit. all b (file_fits c fine o on h b fit);
      in_order = subst (λ os. InOrder os (given h)) on.order first.in_order;
    }

pub file_listed : FileListed
file_listed bytes c each read o on = lists_file c (accepted_is_encoded bytes c each read).0 o on
