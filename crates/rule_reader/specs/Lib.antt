pub mod RuleLoop
