mod ContextFields
