-- What was read always opens, on what it holds.
use Rattle.std.proofs.Common.{◌∙◌, sym, ap, refl, subst}
use Rattle.file_enquiry.specs.FileOpenings.{OpenedOn}
use Rattle.enquiry.specs.Views.{opening_of}
use Rattle.file_enquiry.proofs.FileLists.{lists_file}
use Rattle.file_enquiry.proofs.FileOpens.{opens}
use Rattle.refusals.proofs.Judged.{ok_is_no_err}
use Rattle.rulefile.specs.Held.{contents_of}
use Rattle.file_enquiry.proofs.opening.open.Goals as goal

pub unreachable-requires : goal.unreachable-requires
unreachable-requires c =
    ok_is_no_err
    (sym (opens (contents_of c.args.file) c.start_of-options.result.known c.start_of-options.result.options c.start_of-options.result.asked _ c.requires c.start_of-options.ensures.options (ap (λ a. a.yes) c.start_of-options.ensures.known) (ap (λ a. a.no) c.start_of-options.ensures.known) c.start_of-options.ensures.asked (ap (λ m. m.count) c.build-rules.ensures))
    ∙ c.in-Err.ensures.refusal)

pub returns-clause-opening : goal.returns-clause-opening
returns-clause-opening c =
    subst (OpenedOn (contents_of c.args.file)) (sym c.in-Ok.ensures.opening)
    (record {
      options = c.start_of-options.ensures.options;
      start_yes = ap (λ a. a.yes) c.start_of-options.ensures.known;
      start_no = ap (λ a. a.no) c.start_of-options.ensures.known;
      rule = c.start_of-options.ensures.asked;
      rules = c.build-rules.ensures;
      order = refl;
    })

pub returns-clause-listings : goal.returns-clause-listings
returns-clause-listings c =
    lists_file (contents_of c.args.file) c.requires (opening_of _ c.in-Ok.enquiry) (returns-clause-opening c)
