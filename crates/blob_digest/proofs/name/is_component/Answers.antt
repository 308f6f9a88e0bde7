use Rattle.std.proofs.Common.{◌∙◌, sym}
use Rattle.blob_digest.specs.Names.{component}
use Rattle.blob_digest.proofs.NameTexts.{component_no_slash, component_of_path}
use Rattle.blob_digest.proofs.name.is_component.Goals as goal

pub returns-then-is_path : goal.returns-then-is_path
returns-then-is_path c = (
  λ none. component_of_path c.args.text.now (c.is_path.ensures.0 c.if-is_path.true) (sym c.has_no_slash.ensures ∙ none),
  λ h. c.has_no_slash.ensures ∙ component_no_slash c.args.text.now h,
)

pub returns-else-is_path : goal.returns-else-is_path
returns-else-is_path c = (
  λ yes. component_of_path c.args.text.now (c.is_path.ensures.0 yes) (cc (yes, c.if-is_path.false)),
  λ h. c.is_path.ensures.1 (component c.args.text.now h),
)
