-- An enquiry that is opened on a rule file.
use Rattle.std.specs.Prelude.{◌≡◌}
use Rattle.enquiry.specs.Fitting.{Opening}
use Rattle.listing.specs.SellingOrder.{selling_order}
use Rattle.ruleformat.specs.Contents.{Contents}
use Rattle.rulestack.specs.FileRules.{file_rules}

-- with the options and the start of a file, on its asked rule, in selling order
pub record OpenedOn (c : Contents) (o : Opening) : Type 0 where
  pub options : o.options ≡ c.options
  pub start_yes : o.start.yes ≡ c.start_yes
  pub start_no : o.start.no ≡ c.start_no
  pub rule : o.rule ≡ c.asked
  pub rules : o.rules ≡ file_rules c
  pub order : o.order ≡ selling_order
